-- The counts of the first k datagrams are kept.
use Rattle.std.proofs.Common.{◌≡◌, ◌++◌, take}
use Rattle.ec_master.specs.Report.{counts_of}
use Rattle.ec_master.specs.declared.work.TheConstants.{MAX_ITEMS}
use Rattle.ec_master.proofs.report.Report.take_counts.Given as goal

abbrev pub invariant-loop-k : goal.invariant-loop-k
invariant-loop-k l =
    (l.self.counts
    ≡ take MAX_ITEMS (l.initial.self.counts ++ take l.k (counts_of l.sent l.came)))
    × (l.self.copies ≡ l.initial.self.copies)
