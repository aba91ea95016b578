-- What is told of one slave: its kept bytes, each of which a datagram may tell (IEC 61158-4-12, physical
-- addressing).
use Rattle.std.specs.Prelude.{ℕ, ◌+◌, ◌*◌, ◌==◌, ◌&&◌, Bool, true, false, if◌then◌else◌, Option, None, Some}
use Rattle.std.specs.Prelude.{List, [], ◌∷◌, replicate, slice_index_or, slice_set}
use Rattle.ecat_told.specs.declared.byte.Byte.{Byte}
use Rattle.ecat_told.specs.declared.byte.Byte.TheVariants.{Untold, Lost as LostByte, Guessed, Told}
use Rattle.ecat_told.specs.declared.byte.How.{How}
use Rattle.ecat_told.specs.declared.byte.How.TheVariants.{Read, Written, MayBeWritten, Lost}
use Rattle.ecat_told.specs.declared.slave.Slave.{Slave}
use Rattle.ecat_told.specs.Registers.{place_of, gate_at, byte_after}

-- nothing is told
abbrev pub untold : Slave
untold = record { bytes = replicate 200 Untold }

-- the kept bytes with the one at an address told, as they were when the datagram arrived and as they are now
abbrev pub put_at : How → List Byte → ℕ → ℕ → List Byte → Option ℕ → List Byte
put_at how arrived address value now None = now
put_at how arrived address value now (Some p) =
    slice_set now p (byte_after how (gate_at arrived address) value (slice_index_or now p Untold))

unfoldable pub with_byte : How → List Byte → ℕ → ℕ → List Byte → List Byte
with_byte how arrived address value now = put_at how arrived address value now (place_of address)

-- with a run of bytes from an address on told, one after the other
abbrev pub with_bytes : How → List Byte → ℕ → List ℕ → List Byte → List Byte
with_bytes how arrived address [] now = now
with_bytes how arrived address (value ∷ values) now =
    with_bytes how arrived (address + 1) values (with_byte how arrived address value now)

-- a slave of which a datagram tells a run of bytes
unfoldable pub told_run : How → ℕ → List ℕ → Slave → Slave
told_run how address values s = record { bytes = with_bytes how s.bytes address values s.bytes }

-- ---- the station address

-- the value of a byte, sure or not
abbrev pub value_of : Byte → Option ℕ
value_of Untold = None
value_of LostByte = None
value_of (Guessed b) = Some b
value_of (Told b) = Some b

abbrev pub word_of : Option ℕ → Option ℕ → Option ℕ
word_of (Some low) (Some high) = Some (low + 256 * high)
word_of None high = None
word_of (Some low) None = None

-- its station address, where both bytes are told
unfoldable pub station_of : Slave → Option ℕ
station_of s =
    word_of (value_of (slice_index_or s.bytes 0 Untold)) (value_of (slice_index_or s.bytes 1 Untold))

abbrev pub is_some_at : ℕ → Option ℕ → Bool
is_some_at station None = false
is_some_at station (Some x) = x == station

-- is a station address told, and is it this one
abbrev pub is_at : ℕ → Slave → Bool
is_at station s = is_some_at station (station_of s)
