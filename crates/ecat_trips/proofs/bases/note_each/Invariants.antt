use Rattle.std.proofs.Common.{◌≡◌, ◌++◌, map, take, drop}
use Rattle.ecat_trips.specs.Bases.{noted}
use Rattle.ecat_trips.proofs.bases.note_each.Given as goal

abbrev pub invariant-loop-entry : goal.invariant-loop-entry
invariant-loop-entry l =
    l.told ≡ map (noted l.source) (take l.entry-index l.fn.told) ++ drop l.entry-index l.fn.told
