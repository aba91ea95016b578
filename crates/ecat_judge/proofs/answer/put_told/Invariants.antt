use Rattle.std.proofs.Common.{◌≡◌, ◌++◌, filter, take}
use Rattle.ecat_judge.specs.Answer.{is_told}
use Rattle.ecat_judge.proofs.answer.put_told.Given as goal

abbrev pub invariant-loop-missing : goal.invariant-loop-missing
invariant-loop-missing l =
    l.names.items ≡ l.initial.names.items ++ filter (is_told l.evidence) (take l.missing-index l.candidates)
