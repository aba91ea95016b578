use Rattle.ecat_scene.proofs.SpeltLemmas.{lines-back, rows-back}
use Rattle.ecat_scene.proofs.written.lines_read_back.Goals as goal

pub returns : goal.returns
returns c = record { words = lines-back; rows = rows-back }
