use Rattle.std.proofs.Common.{◌≡◌}
use Rattle.ecat_judge.specs.Candidates.{each_half}
use Rattle.ecat_judge.proofs.candidates.each_half.Given as goal

abbrev pub invariant-loop-place : goal.invariant-loop-place
invariant-loop-place l = l.all.items ≡ each_half l.place
