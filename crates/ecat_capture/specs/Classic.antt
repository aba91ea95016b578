-- A classic capture is a header of 24 bytes and then records, each a head of 16 bytes and the bytes of one
-- packet (the savefile format of libpcap).
use Rattle.std.specs.Prelude.{◌≡◌, ℕ, ◌+◌, ◌*◌, ◌<◌, ◌≤◌, ◌⊎◌, true, false, not, ◌==◌, ◌||◌, Option}
use Rattle.std.specs.Prelude.{Some, None, is_none}
use Rattle.std.specs.Prelude.{List, [], ◌∷◌, length, if◌then◌else◌}
use Rattle.ecat_capture.specs.Numbers.{half, word}
use Rattle.ecat_capture.specs.Times.{time_of}
use Rattle.ecat_capture.specs.Pieces.{first_of, greatest_packet}
use Rattle.ecat_capture.specs.Links.{link_of}
use Rattle.ecat_capture.specs.declared.order.Order.TheVariants.{Little, Big}
use Rattle.ecat_capture.specs.declared.classic.Format.{Format}
use Rattle.ecat_capture.specs.declared.link.Link.{Link}
use Rattle.ecat_capture.specs.declared.link.Link.TheVariants.{Ethernet}
use Rattle.ecat_capture.specs.declared.packet.Found.{Found}
use Rattle.ecat_capture.specs.declared.fault.CaptureFaultKind.{CaptureFaultKind}
use Rattle.ecat_capture.specs.declared.fault.CaptureFaultKind.TheVariants.{Version, LinkType}

-- the kind of classic capture by its first four bytes, lowest first: its numbers' order, and whether it
-- counts nanoseconds; its packets count as those of Ethernet as long as its header does not say it
unfoldable pub format_of : ℕ → Option Format
format_of magic =
    if magic == 0xa1b2c3d4 then Some (record { order = Little; nanoseconds = false; link = Ethernet })
    else if magic == 0xa1b23c4d then Some (record { order = Little; nanoseconds = true; link = Ethernet })
    else if magic == 0xd4c3b2a1 then Some (record { order = Big; nanoseconds = false; link = Ethernet })
    else if magic == 0x4d3cb2a1 then Some (record { order = Big; nanoseconds = true; link = Ethernet })
    else None

-- how many units of time a second has
abbrev pub per_second : Format → ℕ
per_second format = if format.nanoseconds then 1000000000 else 1000000

-- the tests of a header of this kind: the version is 2.4, the link type one that is read
unfoldable pub header_fault : Format → List ℕ → Option CaptureFaultKind
header_fault format bytes =
    first_of (
    (not (half format.order 4 bytes == 2) || not (half format.order 6 bytes == 4), Version)
    ∷ (is_none (link_of (word format.order 20 bytes)), LinkType)
    ∷ []
    )

-- a kind of capture with a link type, if it is known
abbrev pub with_link : Option Link → Format → Format
with_link None format = format
with_link (Some link) format = record format { link = link }

-- a kind of capture with the link type that its header tells
abbrev pub linked : Format → List ℕ → Format
linked format bytes = with_link (link_of (word format.order 20 bytes)) format

-- a header; time zone, accuracy and greatest length, in bytes 8 to 19, may be anything
pub record IsHeader (format : Format) (bytes : List ℕ) : Type 0 where
  pub unlinked : Format
  pub whole : length bytes ≡ 24
  pub magic : format_of (word Little 0 bytes) ≡ Some unlinked
  pub good : header_fault unlinked bytes ≡ None
  pub format_is : format ≡ linked unlinked bytes

-- what the head of a record says of its packet, whose bytes lie behind the head
unfoldable pub record_of : Format → List ℕ → Found
record_of format bytes = record {
  time = Some (time_of (per_second format)
      (word format.order 0 bytes * per_second format + word format.order 4 bytes));
  captured = word format.order 8 bytes;
  original = word format.order 12 bytes;
  from = 16;
  interface = 0;
  link = format.link;
}

-- a record: its head, and as many bytes of the packet as the head says
pub record IsRecord (format : Format) (bytes : List ℕ) (found : Found) : Type 0 where
  pub found_is : found ≡ record_of format bytes
  pub whole : length bytes ≡ 16 + word format.order 8 bytes
  pub fits : word format.order 8 bytes ≤ greatest_packet

-- a record begins and does not end: the bytes end inside its head or inside the packet
abbrev pub IsCutRecord : Format → List ℕ → Type 0
IsCutRecord format bytes =
    (0 < length bytes)
    × ((length bytes < 16)
    ⊎ ((word format.order 8 bytes ≤ greatest_packet) × (length bytes < 16 + word format.order 8 bytes)))
