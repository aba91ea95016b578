-- What an item of a work sent and took: its data, where it writes, and where it reads.
use Rattle.std.specs.Prelude.{ℕ, if◌then◌else◌, List, Option, None, Some, slice_get}
use Rattle.ec_map.specs.Item.{ItemRecord}
use Rattle.ec_wire.specs.Command.{reads, writes}
use Rattle.ec_wire.specs.Kind.{command_of}

abbrev pub sent_of : Option ItemRecord → Option (List ℕ)
sent_of None = None
sent_of (Some r) = if writes (command_of r.kind) then Some r.payload else None

abbrev pub taken_of : Option ItemRecord → Option (List ℕ)
taken_of None = None
taken_of (Some r) = if reads (command_of r.kind) then Some r.payload else None

-- by the number of the item
abbrev pub sent_by : List ItemRecord → ℕ → Option (List ℕ)
sent_by work item = sent_of (slice_get work item)

abbrev pub taken_by : List ItemRecord → ℕ → Option (List ℕ)
taken_by work item = taken_of (slice_get work item)
