use Rattle.ecat_record.proofs.ReadBack.{captures}
use Rattle.ecat_record.proofs.promises.reads_back.Goals as goal

pub returns : goal.returns
returns c = captures
