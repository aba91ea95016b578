use Rattle.std.proofs.Common.{◌≡◌, false}
use Rattle.ecat_judge.specs.Evidence.{any_below}
use Rattle.ecat_judge.specs.Answer.{fits_with}
use Rattle.ecat_judge.proofs.evidence.Evidence.any_two_fit.Given as goal

abbrev pub invariant-loop-other : goal.invariant-loop-other
invariant-loop-other l = any_below (fits_with l.self) l.other ≡ false
