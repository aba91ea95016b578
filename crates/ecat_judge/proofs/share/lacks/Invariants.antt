use Rattle.std.proofs.Common.{◌≡◌, ◌+◌}
use Rattle.ecat_judge.specs.Share.{part_at, sum_below}
use Rattle.ecat_judge.proofs.share.lacks.Given as goal

abbrev pub invariant-loop-place : goal.invariant-loop-place
invariant-loop-place l = sum_below (part_at l.missing l.shares) l.place + l.left ≡ l.short
