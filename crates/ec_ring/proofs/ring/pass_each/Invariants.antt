-- What is left to pass makes of the slaves and the frame as they are what the whole piece makes of those at
-- first.
use Rattle.std.proofs.Common.{◌≡◌, ◌-◌}
use Rattle.ec_ring.proofs.PassLemmas.{places_pass}
use Rattle.ec_ring.proofs.ring.pass_each.Given as goal

abbrev pub invariant-loop-k : goal.invariant-loop-k
invariant-loop-k l =
    places_pass l.k (l.to - l.k) l.slaves l.frame
    ≡ places_pass l.from (l.to - l.from) l.initial.slaves l.initial.frame
