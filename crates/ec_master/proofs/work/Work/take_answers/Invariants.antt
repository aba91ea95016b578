-- The answers of the first j datagrams are taken.
use Rattle.std.proofs.Common.{◌≡◌, take}
use Rattle.ec_master.specs.Work.{with_answers_at}
use Rattle.ec_master.proofs.work.Work.take_answers.Given as goal

abbrev pub invariant-loop-j : goal.invariant-loop-j
invariant-loop-j l = l.self ≡ with_answers_at l.first l.initial.self (take l.j l.joined)
