-- No link so far is down.
use Rattle.std.proofs.Common.{◌≡◌}
use Rattle.std.specs.Prelude.{None}
use Rattle.ec_ring.specs.Links.{first_down}
use Rattle.ec_ring.proofs.links.Links.first_down.Given as goal

abbrev pub invariant-loop-k : goal.invariant-loop-k
invariant-loop-k l = first_down l.self l.k ≡ None
