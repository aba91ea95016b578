-- Those of the subindexes so far stand.
use Rattle.std.proofs.Common.{◌≡◌, map}
use Rattle.std.specs.List.{range_with_len}
use Rattle.ecat_setup.specs.ProcessData.{entry_of, listed_at}
use Rattle.ecat_setup.proofs.process_data.entries_at.Given as goal

abbrev pub invariant-loop-k : goal.invariant-loop-k
invariant-loop-k l =
    l.entries.items ≡ map (λ k. entry_of (listed_at l.objects l.index k)) (range_with_len 0 l.k)
