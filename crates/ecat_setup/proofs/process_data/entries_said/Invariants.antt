-- Those of the entries so far stand.
use Rattle.std.proofs.Common.{◌≡◌, map, take}
use Rattle.ecat_setup.specs.ProcessData.{said_entry}
use Rattle.ecat_setup.proofs.process_data.entries_said.Given as goal

abbrev pub invariant-loop-entry : goal.invariant-loop-entry
invariant-loop-entry l =
    l.entries.items ≡ map said_entry (take l.entry-index l.said)
