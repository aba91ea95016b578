use Rattle.ec_over_ring.proofs.Laws.{entered}
use Rattle.ec_over_ring.proofs.brought.entered.Goals as goal

pub returns : goal.returns
returns c = entered
