use Rattle.ec_over_ring.proofs.Laws.{ready_at_first}
use Rattle.ec_over_ring.proofs.promises.ready_at_first.Goals as goal

pub returns : goal.returns
returns c = ready_at_first
