use Rattle.std.proofs.Common.{◌≡◌, drop, take}
use Rattle.std.specs.Cmp.Lexicographic.{pointwise}
use Rattle.ecat_trips.specs.Alike.{same_at}
use Rattle.ecat_trips.proofs.alike.same_datagrams.Given as goal

abbrev pub invariant-loop-k : goal.invariant-loop-k
invariant-loop-k l =
    pointwise same_at (take l.count l.sent) (take l.count l.frame)
    ≡ pointwise same_at (drop l.k (take l.count l.sent)) (drop l.k (take l.count l.frame))
