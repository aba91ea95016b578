use Rattle.ec_over_ring.proofs.Laws.{all_started}
use Rattle.ec_over_ring.proofs.brought.started_over_ring.Goals as goal

pub returns : goal.returns
returns c = all_started
