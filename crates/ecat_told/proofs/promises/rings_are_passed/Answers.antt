use Rattle.std.proofs.Common.{ap}
use Rattle.ec_ring.specs.Walk.{Walked}
use Rattle.ecat_told.proofs.RingLemmas.{walk_leaves, whole_walk, whole_walk_b}
use Rattle.ecat_told.proofs.promises.rings_are_passed.Goals as goal

pub returns-clause-back : goal.returns-clause-back
returns-clause-back c = λ links frame line whole.
    ap (λ (w : Walked). w.arrived) (whole_walk links frame line whole)

pub returns-clause-whole : goal.returns-clause-whole
returns-clause-whole c = λ links frame line whole.
    ap (λ (w : Walked). w.line) (whole_walk links frame line whole)

pub returns-clause-other : goal.returns-clause-other
returns-clause-other c = whole_walk_b

pub returns-clause-lost : goal.returns-clause-lost
returns-clause-lost c = walk_leaves
