-- A pcapng file is blocks, end to end: each has its type, its length, what it says, and its length again
-- (the PCAP Next Generation file format: block types and options).
use Rattle.std.specs.Prelude.{◌≡◌, ℕ, ◌+◌, ◌-◌, ◌*◌, ◌%◌, ◌<◌, ◌≤◌, ◌⊎◌, not, ◌==◌, ◌&&◌}
use Rattle.std.specs.Prelude.{nat_lt}
use Rattle.std.specs.Prelude.{Option, Some, None, Result, Ok, Err, List, [], ◌∷◌, zero, suc, length, drop}
use Rattle.std.specs.Prelude.{min}
use Rattle.std.specs.Prelude.{slice_index, slice_get, if◌then◌else◌}
use Rattle.ecat_capture.specs.Numbers.{half, word}
use Rattle.ecat_capture.specs.Input.{run}
use Rattle.ecat_capture.specs.Times.{time_of, per_second_of}
use Rattle.ecat_capture.specs.Pieces.{first_of, padded, greatest_packet, greatest_block}
use Rattle.ecat_capture.specs.Pieces.{most_interfaces}
use Rattle.ecat_capture.specs.Links.{link_of}
use Rattle.ecat_capture.specs.declared.order.Order.{Order}
use Rattle.ecat_capture.specs.declared.order.Order.TheVariants.{Little, Big}
use Rattle.ecat_capture.specs.declared.blocks.Interface.{Interface}
use Rattle.ecat_capture.specs.declared.blocks.Fields.{Fields}
use Rattle.ecat_capture.specs.declared.blocks.Body.{Body}
use Rattle.ecat_capture.specs.declared.blocks.Body.TheVariants as body
use Rattle.ecat_capture.specs.declared.blocks.NextOption.{NextOption}
use Rattle.ecat_capture.specs.declared.blocks.NextOption.TheVariants as next
use Rattle.ecat_capture.specs.declared.packet.Found.{Found}
use Rattle.ecat_capture.specs.declared.link.Link.{Link}
use Rattle.ecat_capture.specs.declared.packet.Time.{Time}
use Rattle.ecat_capture.specs.declared.fault.CaptureFaultKind.{CaptureFaultKind}
use Rattle.ecat_capture.specs.declared.fault.CaptureFaultKind.TheVariants as fault

-- the types of blocks; that of a section header is the same number in both orders
abbrev pub section_header : ℕ
section_header = 0x0a0d0d0a

abbrev pub interface_description : ℕ
interface_description = 1

-- the order that a section header's byte-order magic tells, read lowest byte first
unfoldable pub magic_order : ℕ → Option Order
magic_order magic =
    if magic == 0x1a2b3c4d then Some Little else if magic == 0x4d3c2b1a then Some Big else None

-- the order of a block's numbers, by its first twelve bytes: its section's, and a section header tells its
-- own
unfoldable pub block_order : Order → List ℕ → Option Order
block_order section bytes =
    if word Little 0 bytes == section_header then magic_order (word Little 8 bytes) else Some section

-- what is wrong with a block's length, by the number that stands in its head
unfoldable pub length_fault : ℕ → Option CaptureFaultKind
length_fault size =
    first_of (
    (nat_lt size 12, fault.BlockLength)
    ∷ (not (size % 4 == 0), fault.BlockLength)
    ∷ (nat_lt greatest_block size, fault.TooLong)
    ∷ []
    )

-- a whole block, behind blocks of a section of the first order; its own numbers have the second
pub record IsBlock (section : Order) (block : List ℕ) (order : Order) : Type 0 where
  pub order_is : block_order section block ≡ Some order
  pub good : length_fault (length block) ≡ None
  pub length_is : word order 4 block ≡ length block

-- the least length of a block by its type
unfoldable pub least_length : ℕ → ℕ
least_length type =
    if type == 0x0a0d0d0a then 28 else if type == 1 then 20 else if type == 2 then 32
    else if type == 3 then 16 else if type == 6 then 32 else 12

-- what comes next among options: the time resolution, another option and its padding, or nothing more, also
-- where an option does not end
unfoldable pub next_option : Order → List ℕ → NextOption
next_option order rest =
    if nat_lt (length rest) 4 then next.End
    else if half order 0 rest == 0 then next.End
    else if nat_lt (length rest) (4 + padded (half order 2 rest)) then next.End
    else if half order 0 rest == 9 && nat_lt 0 (half order 2 rest) then next.Resolution (slice_index rest 4)
    else next.Other (4 + padded (half order 2 rest))

-- an option and its padding lie within so many bytes
abbrev pub OptionFits : NextOption → ℕ → Type 0
OptionFits (next.Other size) room = size ≤ room
OptionFits other room = Unit {0}

-- the time resolution by what comes next: microseconds where no option tells it
abbrev pub resolved : (List ℕ → ℕ) → List ℕ → NextOption → ℕ
resolved behind rest next.End = 6
resolved behind rest (next.Resolution value) = value
resolved behind rest (next.Other size) = behind (drop size rest)

-- the time resolution among at most so many options
abbrev pub resolution_within : ℕ → Order → List ℕ → ℕ
resolution_within zero order rest = 6
resolution_within (suc n) order rest = resolved (resolution_within n order) rest (next_option order rest)

-- the time resolution that options tell
unfoldable pub resolution_of : Order → List ℕ → ℕ
resolution_of order options = resolution_within (length options) order options

-- the interface that a block describes
unfoldable pub interface_of : Order → List ℕ → Interface
interface_of order block = record {
  link_type = half order 8 block;
  snap_length = word order 12 block;
  resolution = resolution_of order (run 16 (length block - 4) block);
}

-- how many bytes of a packet are captured, by the snap length of the interface: 0 sets no limit
abbrev pub snapped : ℕ → ℕ → ℕ
snapped original limit = if limit == 0 then original else min original limit

-- the fields of a packet in an enhanced packet block, in the obsolete packet block, and in a simple one,
-- which comes from the first interface
abbrev pub enhanced_fields : Order → List ℕ → Fields
enhanced_fields order block = record {
  interface = word order 8 block;
  ticks = Some (word order 12 block * 4294967296 + word order 16 block);
  captured = word order 20 block;
  original = word order 24 block;
  from = 28;
}

abbrev pub obsolete_fields : Order → List ℕ → Fields
obsolete_fields order block = record {
  interface = half order 8 block;
  ticks = Some (word order 12 block * 4294967296 + word order 16 block);
  captured = word order 20 block;
  original = word order 24 block;
  from = 28;
}

abbrev pub first_snap_length : List Interface → ℕ
first_snap_length [] = 0
first_snap_length (first ∷ others) = first.snap_length

abbrev pub simple_fields : Order → ℕ → List ℕ → Fields
simple_fields order limit block = record {
  interface = 0;
  ticks = None;
  captured = snapped (word order 8 block) limit;
  original = word order 8 block;
  from = 12;
}

-- the fields of the packet that a block stores, by its type
unfoldable pub fields_of : Order → List Interface → List ℕ → Option Fields
fields_of order interfaces block =
    if word order 0 block == 2 then Some (obsolete_fields order block)
    else if word order 0 block == 3 then Some (simple_fields order (first_snap_length interfaces) block)
    else if word order 0 block == 6 then Some (enhanced_fields order block)
    else None

-- the time of so many ticks, if there are ticks and a second has a number of them that is known
abbrev pub timed : Option ℕ → ℕ → Result (Option Time) CaptureFaultKind
timed None per_second = Ok None
timed (Some ticks) per_second =
    if per_second == 0 then Err fault.TimeResolution else Ok (Some (time_of per_second ticks))

-- what is wrong with a packet in a block of this length
unfoldable pub packet_fault : ℕ → Fields → Option CaptureFaultKind
packet_fault size fields =
    first_of (
    (nat_lt greatest_packet fields.captured, fault.TooLong)
    ∷ (nat_lt size (fields.from + padded fields.captured + 4), fault.Overrun)
    ∷ []
    )

-- the packet of a link type that has these fields and a time, or what is wrong with its time
abbrev pub packet_of : Link → Fields → Result (Option Time) CaptureFaultKind → Result Found CaptureFaultKind
packet_of link fields (Ok time) = Ok (record {
  time = time;
  captured = fields.captured;
  original = fields.original;
  from = fields.from;
  interface = fields.interface;
  link = link;
})
packet_of link fields (Err kind) = Err kind

-- the same, unless something else is wrong
abbrev pub unless_packet : Option CaptureFaultKind → Result Found CaptureFaultKind
    → Result Found CaptureFaultKind
unless_packet None found = found
unless_packet (Some kind) found = Err kind

-- the packet with these fields in a block of this length, of an interface whose link type is read
abbrev pub linked_packet : Option Link → Interface → ℕ → Fields → Result Found CaptureFaultKind
linked_packet None interface size fields = Err fault.LinkType
linked_packet (Some link) interface size fields =
    unless_packet (packet_fault size fields)
    (packet_of link fields (timed fields.ticks (per_second_of interface.resolution)))

-- the packet with these fields in a block of this length, if its interface is described
abbrev pub packet_from : Option Interface → ℕ → Fields → Result Found CaptureFaultKind
packet_from None size fields = Err fault.Interface
packet_from (Some interface) size fields =
    linked_packet (link_of interface.link_type) interface size fields

-- a packet as what a block says
abbrev pub as_packet : Result Found CaptureFaultKind → Result Body CaptureFaultKind
as_packet (Ok found) = Ok (body.Packet found)
as_packet (Err kind) = Err kind

-- a packet's block, or one that tells nothing of packets
abbrev pub packet_body : List Interface → ℕ → Option Fields → Result Body CaptureFaultKind
packet_body interfaces size None = Ok body.Other
packet_body interfaces size (Some fields) =
    as_packet (packet_from (slice_get interfaces fields.interface) size fields)

-- a section, of the first version of the format
abbrev pub section_body : Order → List ℕ → Result Body CaptureFaultKind
section_body order block = if half order 12 block == 1 then Ok (body.Section order) else Err fault.Version

-- an interface, behind those that the section has described
abbrev pub interface_body : Order → List Interface → List ℕ → Result Body CaptureFaultKind
interface_body order interfaces block =
    if nat_lt (length interfaces) most_interfaces then Ok (body.Interface (interface_of order block))
    else Err fault.TooManyInterfaces

-- what a whole block says, or what is wrong with it
unfoldable pub body_of : Order → List Interface → List ℕ → Result Body CaptureFaultKind
body_of order interfaces block =
    if not (word order (length block - 4) block == length block) then Err fault.BlockLength
    else if nat_lt (length block) (least_length (word order 0 block)) then Err fault.BlockLength
    else if word order 0 block == section_header then section_body order block
    else if word order 0 block == interface_description then interface_body order interfaces block
    else packet_body interfaces (length block) (fields_of order interfaces block)

-- the stored bytes of a packet lie within a block of this length
abbrev pub BodyFits : Body → ℕ → Type 0
BodyFits (body.Packet found) size = found.from + found.captured ≤ size
BodyFits _ size = Unit {0}

-- a block begins and does not end
abbrev pub IsCutBlock : Order → List ℕ → Type 0
IsCutBlock section bytes =
    (0 < length bytes)
    × ((length bytes < 12)
    ⊎ ((order : Order) × (block_order section bytes ≡ Some order) × (length_fault (word order 4 bytes) ≡ None)
    × (length bytes < word order 4 bytes)))
