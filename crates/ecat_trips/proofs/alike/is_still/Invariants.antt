use Rattle.std.proofs.Common.{◌≡◌, drop}
use Rattle.std.specs.Cmp.Lexicographic.{pointwise}
use Rattle.ecat_trips.specs.Alike.{still_at}
use Rattle.ecat_trips.proofs.alike.is_still.Given as goal

abbrev pub invariant-loop-k : goal.invariant-loop-k
invariant-loop-k l =
    pointwise still_at l.sent l.frame
    ≡ pointwise still_at (drop l.k l.sent) (drop l.k l.frame)
