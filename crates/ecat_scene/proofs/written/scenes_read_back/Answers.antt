use Rattle.ecat_scene.proofs.MeantLemmas.{lines-mean}
use Rattle.ecat_scene.proofs.written.scenes_read_back.Goals as goal

pub returns : goal.returns
returns c = lines-mean
