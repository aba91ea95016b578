-- Those with the numbers so far stand.
use Rattle.std.proofs.Common.{◌≡◌, map}
use Rattle.std.specs.List.{range_with_len}
use Rattle.ecat_setup.specs.ProcessData.{made_entry}
use Rattle.ecat_setup.proofs.process_data.entries_of.Given as goal

abbrev pub invariant-loop-k : goal.invariant-loop-k
invariant-loop-k l =
    l.entries.items ≡ map (made_entry l.index l.wide) (range_with_len 0 l.k)
