-- A slave's share in the working counter of an item (IEC 61158-4-12, working counter).
use Rattle.std.specs.Prelude.{ℕ, ◌*◌, ◌%◌, Bool, List, length, sum_by}
use Rattle.ec_wire.specs.declared.command.Addressing.TheVariants.{ConfiguredStation}
use Rattle.ec_areas.specs.Logical.{IsReadable, IsWritable, IsPairWithin}
use Rattle.ec_areas.specs.Records.{fmmus_of, sync_managers_of}
use Rattle.ec_esc.specs.Pass.{serves_reading, serves_writing}
use Rattle.ec_esc.specs.State.{ControllerState}
use Rattle.ec_line.specs.Claims.{gain}
use Rattle.ec_line.specs.Request.{Request}
use Rattle.ec_map.specs.Item.{ItemRecord, wire_address}

-- what the item asks, whatever its data
abbrev pub request_of : ItemRecord → Request
request_of r = record { kind = r.kind; address = wire_address r; count = length r.payload }

-- what a slave adds to the counter of an item: what the counter of its datagram gains there
abbrev pub share : ItemRecord → ControllerState → ℕ
share r c = gain (request_of r) c

-- what the line adds, modulo 65536
abbrev pub expected_of : List ControllerState → ItemRecord → ℕ
expected_of line r = sum_by (share r) line % 65536

-- ---- of what a share is made

-- a readable pair of the controller has its logical bit in the n bytes from an address on
abbrev pub ReadsBit : ControllerState → ℕ → ℕ → ℕ → ℕ → Type 0
ReadsBit c address n l p =
    IsPairWithin (IsReadable (sync_managers_of c.memory) (fmmus_of c.memory)) (8 * address) (8 * n) l p

-- a writable pair has
abbrev pub WritesBit : ControllerState → ℕ → ℕ → ℕ → ℕ → Type 0
WritesBit c address n l p =
    IsPairWithin (IsWritable (sync_managers_of c.memory) (fmmus_of c.memory)) (8 * address) (8 * n) l p

-- is it the station that the item names, and is the item's range served for reading there
abbrev pub serves_item_read : ControllerState → ItemRecord → Bool
serves_item_read c r = serves_reading ConfiguredStation c r.address (length r.payload)

-- is it that station, and is the item's range served for writing there
abbrev pub serves_item_write : ControllerState → ItemRecord → Bool
serves_item_write c r = serves_writing ConfiguredStation c r.address (length r.payload)
