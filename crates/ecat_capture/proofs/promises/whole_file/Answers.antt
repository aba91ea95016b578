use Rattle.ecat_capture.proofs.Files.{whole}
use Rattle.ecat_capture.proofs.promises.whole_file.Goals as goal

pub returns : goal.returns
returns c = whole
