-- What a capture is as it is written: a classic one, little endian, of Ethernet (the savefile format of
-- libpcap), whose packets are stored whole.
use Rattle.std.specs.Prelude.{ℕ, ◌*◌, ◌/◌, ◌%◌, ◌^◌, ◌-◌, ◌≤◌, min, List, [], ◌∷◌, ◌++◌, length}
use Rattle.std.specs.Prelude.{Bool, true, false, ⊤, Some, map, take}
use Rattle.std.specs.Int.{w16, w32, to_le_bytes}
use Rattle.ecat_capture.specs.declared.order.Order.TheVariants.{Little}
use Rattle.ecat_capture.specs.declared.classic.Format.{Format}
use Rattle.ecat_capture.specs.declared.link.Link.TheVariants.{Ethernet}
use Rattle.ecat_capture.specs.Pieces.{greatest_packet, kept_packet}
use Rattle.ecat_capture.specs.Times.{time_of}
use Rattle.ecat_capture.specs.File.{Stored}
use Rattle.ecat_capture.specs.Classic as classic
use Rattle.ecat_record.specs.declared.format.Unit.{Unit}
use Rattle.ecat_record.specs.declared.format.Unit.TheVariants.{Microseconds, Nanoseconds}

-- nanoseconds, or microseconds
abbrev pub is_fine : Unit → Bool
is_fine Microseconds = false
is_fine Nanoseconds = true

-- the kind of classic capture that counts this unit of time
abbrev pub format_of : Unit → Format
format_of unit = record { order = Little; nanoseconds = is_fine unit; link = Ethernet }

-- the first four bytes, as a number
abbrev pub magic_of : Unit → ℕ
magic_of Microseconds = 0xa1b2c3d4
magic_of Nanoseconds = 0xa1b23c4d

-- how many units a second has
abbrev pub per_second : Unit → ℕ
per_second unit = classic.per_second (format_of unit)

-- the header: magic, version 2.4, time zone 0, accuracy 0, the greatest length of a packet, link type 1 for
-- Ethernet
unfoldable pub header_of : Unit → List ℕ
header_of unit =
    to_le_bytes w32 (magic_of unit) ++ to_le_bytes w16 2 ++ to_le_bytes w16 4 ++ to_le_bytes w32 0
    ++ to_le_bytes w32 0 ++ to_le_bytes w32 greatest_packet ++ to_le_bytes w32 1

-- the head of a record: seconds, the units behind them, how many bytes are stored, and how many there were
unfoldable pub head_of : Unit → ℕ → ℕ → List ℕ
head_of unit ticks size =
    to_le_bytes w32 (ticks / per_second unit) ++ to_le_bytes w32 (ticks % per_second unit)
    ++ to_le_bytes w32 size ++ to_le_bytes w32 size

-- a time as a record tells it, which has room for 2 ^ 32 seconds since the epoch
abbrev pub told_time : Unit → ℕ → ℕ
told_time unit ticks = min ticks (per_second unit * 2 ^ 32 - 1)

-- the record of a packet at so many units of time since the epoch
abbrev pub record_of : Unit → ℕ → List ℕ → List ℕ
record_of unit ticks packet = head_of unit (told_time unit ticks) (length packet) ++ packet

-- a packet that was written, and at how many units of time
pub record Copy : Type 0 where
  pub ticks : ℕ
  pub packet : List ℕ

-- the records of packets, end to end
abbrev pub records_of : Unit → List Copy → List ℕ
records_of unit [] = []
records_of unit (c ∷ cs) = record_of unit c.ticks c.packet ++ records_of unit cs

-- all of a capture that was written
abbrev pub capture_of : Unit → List Copy → List ℕ
capture_of unit copies = header_of unit ++ records_of unit copies

-- a reader takes each packet
abbrev pub AllFit : List Copy → Type 0
AllFit [] = ⊤
AllFit (c ∷ cs) = (length c.packet ≤ greatest_packet) × AllFit cs

-- what a reader gives of a packet: its time, its length, and its bytes, at most the first 65,536
abbrev pub packet_of : Unit → Copy → Stored
packet_of unit copy = record {
  time = Some (time_of (per_second unit) (told_time unit copy.ticks));
  captured = length copy.packet;
  original = length copy.packet;
  bytes = take kept_packet copy.packet;
}

-- and of all packets
abbrev pub packets_of : Unit → List Copy → List Stored
packets_of unit copies = map (packet_of unit) copies
