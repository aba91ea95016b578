use Rattle.std.proofs.Common.{◌≡◌, drop}
use Rattle.std.specs.Cmp.Lexicographic.{pointwise}
use Rattle.ecat_trips.specs.Alike.{same_question_at}
use Rattle.ecat_trips.proofs.alike.same_question.Given as goal

abbrev pub invariant-loop-k : goal.invariant-loop-k
invariant-loop-k l =
    pointwise same_question_at l.sent l.frame
    ≡ pointwise same_question_at (drop l.k l.sent) (drop l.k l.frame)
