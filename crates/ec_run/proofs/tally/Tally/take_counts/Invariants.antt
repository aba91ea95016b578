-- The counts of the first k datagrams are kept.
use Rattle.std.proofs.Common.{◌≡◌, ◌++◌, take}
use Rattle.ec_master.specs.declared.work.TheConstants.{MAX_ITEMS}
use Rattle.ec_run.specs.Tally.{moved_in_both, first_of, without_counts}
use Rattle.ec_run.proofs.tally.Tally.take_counts.Given as goal

abbrev pub invariant-loop-k : goal.invariant-loop-k
invariant-loop-k l = record {
  counts : l.self.counts
      ≡ take MAX_ITEMS (l.initial.self.counts ++ first_of (moved_in_both l.sent l.came) l.k);
  rest : without_counts l.self ≡ without_counts l.initial.self;
}
