use Rattle.std.proofs.Common.{◌≡◌, drop}
use Rattle.ecat_master.specs.Scan.{greatest, greatest_from}
use Rattle.ecat_master.proofs.scanning.greatest_of.Given as goal

-- the greatest so far and what is left make the greatest of all
abbrev pub invariant-loop-count : goal.invariant-loop-count
invariant-loop-count l = greatest_from l.greatest (drop l.count-index l.counts) ≡ greatest l.counts
