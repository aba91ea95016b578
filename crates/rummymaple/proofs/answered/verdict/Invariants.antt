-- The counters before j are as expected: the verdict is that on the others.
use Rattle.std.proofs.Common.{◌≡◌, ◌+◌, [], map, drop}
use Rattle.ec_master.specs.Verdict.{verdict_from}
use Rattle.rummymaple.specs.Items.{asked}
use Rattle.rummymaple.specs.Answers.{verdict_on}
use Rattle.rummymaple.proofs.answered.verdict.Given as goal

abbrev pub invariant-loop-j : goal.invariant-loop-j
invariant-loop-j l =
    verdict_from (l.first + l.j) (drop (l.first + l.j) (map (asked []) l.items)) (drop l.j l.frame)
    (drop (l.first + l.j) (map (λ i. i.expected) l.items))
    ≡ verdict_on l.items l.first l.frame
