use Rattle.std.proofs.Common.{◌≡◌, false}
use Rattle.ecat_judge.specs.Evidence.{any_below, is_seen_at}
use Rattle.ecat_judge.proofs.evidence.was_seen.Given as goal

abbrev pub invariant-loop-place : goal.invariant-loop-place
invariant-loop-place l = any_below (is_seen_at l.missing l.passed) l.place ≡ false
