use Rattle.std.proofs.Common.{◌≡◌, ◌++◌}
use Rattle.ecat_judge.specs.Candidates.{runs_from}
use Rattle.ecat_judge.proofs.candidates.put_runs.Given as goal

abbrev pub invariant-loop-to : goal.invariant-loop-to
invariant-loop-to l = l.all.items ≡ l.initial.all.items ++ runs_from l.any l.from l.to
