use Rattle.std.proofs.Common.{◌≡◌, false}
use Rattle.ecat_judge.specs.declared.share.Missing.TheVariants.{Two}
use Rattle.ecat_judge.specs.Evidence.{any_below, fits}
use Rattle.ecat_judge.proofs.evidence.Evidence.fits_with.Given as goal

abbrev pub invariant-loop-one : goal.invariant-loop-one
invariant-loop-one l = any_below (λ one. fits (Two one l.other) l.self) l.one ≡ false
