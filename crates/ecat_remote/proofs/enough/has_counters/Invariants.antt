use Rattle.std.proofs.Common.{◌≡◌, map, take}
use Rattle.ec_wire.specs.Datagram.{DatagramRecord}
use Rattle.ecat_remote.proofs.enough.has_counters.Given as goal

-- the counters so far are those that are expected so far
abbrev pub invariant-loop-k : goal.invariant-loop-k
invariant-loop-k l = map (λ (d : DatagramRecord). d.counter) (take l.k l.frame) ≡ take l.k l.expected
