-- The first k counters are as expected: the verdict is that on the others.
use Rattle.std.proofs.Common.{◌≡◌, List, length, drop}
use Rattle.ec_wire.specs.Datagram.{DatagramRecord}
use Rattle.ec_master.specs.Verdict.{verdict, verdict_from}
use Rattle.ec_master.specs.Work.{with_answers}
use Rattle.ec_master.proofs.verdict.judge.Given as goal

abbrev pub invariant-loop-k : goal.invariant-loop-k
invariant-loop-k l =
    (answers : List DatagramRecord) → length answers ≡ length l.work → l.taken ≡ with_answers l.work answers
    → verdict_from l.k (drop l.k l.work) (drop l.k answers) (drop l.k l.expected)
    ≡ verdict l.work answers l.expected
