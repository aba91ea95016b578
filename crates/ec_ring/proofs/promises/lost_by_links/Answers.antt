use Rattle.ec_ring.proofs.ReachLemmas.{lost-front, lost-back}
use Rattle.ec_ring.proofs.promises.lost_by_links.Goals as goal

pub returns-clause-a : goal.returns-clause-a
returns-clause-a c = lost-front

pub returns-clause-b : goal.returns-clause-b
returns-clause-b c = lost-back
