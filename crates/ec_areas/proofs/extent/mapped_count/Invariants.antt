-- The count is that of the FMMUs before this one.
use Rattle.std.proofs.Common.{◌≡◌, take}
use Rattle.ec_areas.specs.Extent.{mapped_count}
use Rattle.ec_areas.proofs.extent.mapped_count.Given as goal

abbrev pub invariant-loop-k : goal.invariant-loop-k
invariant-loop-k l = l.count ≡ mapped_count (take l.k l.fmmus)
