use Rattle.ecat_started.proofs.SucceedLemmas.{all_counted_right}
use Rattle.ecat_started.proofs.succeeds.counted_right.Goals as goal

pub returns : goal.returns
returns c = all_counted_right
