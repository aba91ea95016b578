use Rattle.ec_over_ring.proofs.Laws.{settled_at_once}
use Rattle.ec_over_ring.proofs.promises.settled_over_ring.Goals as goal

pub returns : goal.returns
returns c = settled_at_once
