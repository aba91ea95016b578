use Rattle.ec_ring.proofs.ReachLemmas.{front-reaches, back-reaches, whole-up}
use Rattle.ec_ring.proofs.promises.reach.Goals as goal

pub returns-clause-a : goal.returns-clause-a
returns-clause-a c = front-reaches

pub returns-clause-b : goal.returns-clause-b
returns-clause-b c = back-reaches

pub returns-clause-whole : goal.returns-clause-whole
returns-clause-whole c = whole-up
