-- An item that no slave of the line serves moves nothing and counts nothing (IEC 61158-4-12, working counter
-- and FMMU).
use Rattle.std.specs.Prelude.{ℕ, ◌+◌, ◌-◌, ◌*◌, ◌==◌, ◌&&◌, Bool, not, nat_lt, if◌then◌else◌}
use Rattle.std.specs.Prelude.{Option, None, Some, List, length}
use Rattle.std.specs.List.{list_any}
use Rattle.ec_wire.specs.declared.datagram.TheConstants.{MAX_DATA}
use Rattle.ec_number.specs.declared.number.TheConstants.{NUMBER_LENGTH}
use Rattle.ec_regs.specs.Pairs.{pair_count, first_logical}
use Rattle.ec_regs.specs.declared.fmmu.Fmmu.{Fmmu}
use Rattle.ec_areas.specs.Records.{fmmus_of}
use Rattle.ec_check.specs.Line.{controllers_by}
use Rattle.ec_check.specs.Records.{controller_with}
use Rattle.ec_check.specs.declared.records.Records.{Records}
use Rattle.ec_map.specs.Item.{ItemRecord, is_logical}
use Rattle.ec_map.specs.Share.{expected_of}
use Rattle.ecat_lint.specs.declared.oddity.Oddity.{Oddity}
use Rattle.ecat_lint.specs.declared.oddity.Oddity.TheVariants.{OutsideMappings, NotServed, NoRoom}

-- does the FMMU map one of the n logical bytes from an address on, for reading or for writing
abbrev pub maps_logical : ℕ → ℕ → Fmmu → Bool
maps_logical address n f =
    not (pair_count f == 0) && nat_lt (first_logical f) (8 * (address + n))
    && nat_lt (8 * address) (first_logical f + pair_count f)

-- does one of a slave's FMMUs map a byte of the item
abbrev pub maps_some : ItemRecord → Records → Bool
maps_some r slave =
    list_any (maps_logical r.address (length r.payload)) (fmmus_of (controller_with slave).memory)

-- does one of the FMMUs of the line
abbrev pub is_mapped : List Records → ItemRecord → Bool
is_mapped line r = list_any (maps_some r) line

-- is the item a logical one of which no FMMU of the line maps a byte
abbrev pub is_outside : List Records → ItemRecord → Bool
is_outside line r = is_logical r.kind && not (is_mapped line r)

-- what the line adds to the working counter of the item
abbrev pub expected : List Records → ItemRecord → ℕ
expected line r = expected_of (controllers_by controller_with line) r

-- nobody serves the item: it is outside of all mappings, or what it asks is served nowhere
abbrev pub unserved : List Records → ItemRecord → Option Oddity
unserved line r =
    if expected line r == 0 then
    (if is_outside line r then Some (OutsideMappings r.address (length r.payload)) else Some NotServed)
    else None

-- the most bytes of data of a datagram that goes out alone with a number behind it
abbrev pub most_data : ℕ
most_data = MAX_DATA - NUMBER_LENGTH

-- an item has no room in a frame beside its number
abbrev pub without_room : ItemRecord → Option Oddity
without_room r =
    if nat_lt most_data (length r.payload) then Some (NoRoom (length r.payload) most_data) else None
