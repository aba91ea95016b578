-- The last one so far.
use Rattle.std.proofs.Common.{◌≡◌}
use Rattle.ec_ring.specs.Links.{last_down}
use Rattle.ec_ring.proofs.links.Links.last_down.Given as goal

abbrev pub invariant-loop-k : goal.invariant-loop-k
invariant-loop-k l = l.last ≡ last_down l.self l.k
