use Rattle.ec_ring.proofs.ReachLemmas.{front-le-back, front-is-back}
use Rattle.ec_ring.proofs.promises.same_links.Goals as goal

pub returns-clause-apart : goal.returns-clause-apart
returns-clause-apart c = front-le-back

pub returns-clause-one_down : goal.returns-clause-one_down
returns-clause-one_down c = front-is-back
