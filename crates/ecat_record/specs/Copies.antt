-- Which source address tells of a copy: the port of the master, and whether it leaves or arrives there.
use Rattle.std.specs.Prelude.{◌≡◌, ℕ, List, ◌∷◌, drop, take, slice_index, Option, None, Some, true, false}
use Rattle.std.specs.Io.KnownBytes.{Appends}
use Rattle.ecat_raw.specs.Ethernet.{marked, packet_of}
use Rattle.ecat_raw.specs.declared.ethernet.TheConstants.{ADDRESS_A, ADDRESS_B}
use Rattle.ec_ring.specs.declared.port.Port.{Port}
use Rattle.ec_ring.specs.declared.port.Port.TheVariants.{A, B}
use Rattle.ec_wire.specs.declared.frame.TheConstants.{MAX_FRAME}
use Rattle.ecat_record.specs.declared.format.Unit.{Unit}
use Rattle.ecat_record.specs.State.{TapeState}
use Rattle.ecat_record.specs.Written.{record_of}
use Rattle.ecat_record.specs.declared.copies.Way.{Way}
use Rattle.ecat_record.specs.declared.copies.Way.TheVariants.{Leaves, Arrives}

-- the master's address at a port
abbrev pub own_address : Port → List ℕ
own_address A = ADDRESS_A
own_address B = ADDRESS_B

-- the address as controllers pass it on: bit 1 of the first byte is set
abbrev pub passed : List ℕ → List ℕ
passed address = marked (slice_index address 0) ∷ drop 1 address

-- the source address of a copy
abbrev pub address_of : Port → Way → List ℕ
address_of port Leaves = own_address port
address_of port Arrives = passed (own_address port)

-- the record of a copy: an Ethernet frame of its first bytes, as many as a frame may have
abbrev pub copy_record : Unit → ℕ → Port → Way → List ℕ → List ℕ
copy_record unit ticks port way frame =
    record_of unit ticks (packet_of (address_of port way) (take MAX_FRAME frame))

-- A copy was recorded at some moment, where anybody wants it and no write has failed.
abbrev pub IsRecorded : Port → Way → List ℕ → Option TapeState → Option TapeState → Type 0
IsRecorded port way frame None new = new ≡ None
IsRecorded port way frame (Some old) None = ⊥
IsRecorded port way frame (Some old) (Some new) =
    (new.has_failed ≡ false → (ticks : ℕ)
    × Appends old.held new.held (copy_record old.unit ticks port way frame))
    × (old.has_failed ≡ true → new ≡ old) × (new.unit ≡ old.unit)
