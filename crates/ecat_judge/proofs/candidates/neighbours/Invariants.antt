use Rattle.std.proofs.Common.{◌≡◌}
use Rattle.ecat_judge.specs.Candidates.{neighbours}
use Rattle.ecat_judge.proofs.candidates.neighbours.Given as goal

abbrev pub invariant-loop-from : goal.invariant-loop-from
invariant-loop-from l = l.all.items ≡ neighbours l.any l.count l.from
