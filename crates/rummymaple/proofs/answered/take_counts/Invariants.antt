-- What came back of the first j datagrams is written.
use Rattle.std.proofs.Common.{◌≡◌, take}
use Rattle.rummymaple.specs.Answers.{with_counts_at}
use Rattle.rummymaple.proofs.answered.take_counts.Given as goal

abbrev pub invariant-loop-j : goal.invariant-loop-j
invariant-loop-j l = l.items ≡ with_counts_at l.first l.initial.items (take l.j l.frame)
