use Rattle.std.proofs.Common.{◌≡◌}
use Rattle.ecat_judge.specs.Candidates.{each_slave}
use Rattle.ecat_judge.proofs.candidates.each_slave.Given as goal

abbrev pub invariant-loop-place : goal.invariant-loop-place
invariant-loop-place l = l.all.items ≡ each_slave l.place
