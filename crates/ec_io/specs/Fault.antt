-- Bytes that are no packet have one first fault, in the order of the fields.
use Rattle.std.specs.Prelude.{ℕ, ◌+◌, ◌==◌, nat_lt, Bool, not, List, [], ◌∷◌, length, drop, slice_index}
use Rattle.std.specs.Prelude.{Option, None, Some, if◌then◌else◌}
use Rattle.std.specs.Int.{w16, w32, from_le_bytes}
use Rattle.ec_io.specs.Cycle.{letters, version}
use Rattle.ec_io.specs.declared.fault.PacketFault.{PacketFault}
use Rattle.ec_io.specs.declared.fault.PacketFault.TheVariants.{Short, OtherMagic, OtherVersion, OtherKind}
use Rattle.ec_io.specs.declared.fault.PacketFault.TheVariants.{Length, BadEnd, BadFlags, BadItem, BadInputs}
use Rattle.ec_io.specs.declared.fault.PacketFault.TheVariants.{BadLast, LongText}

-- the fault of the first test that holds
abbrev pub first_of : List (Bool × PacketFault) → Option PacketFault
first_of [] = None
first_of (t ∷ ts) = if t.0 then Some t.1 else first_of ts

-- how many bytes of process data a packet says that it has
abbrev pub said_length : List ℕ → ℕ
said_length bytes = from_le_bytes w16 (drop 6 bytes)

-- the tests that each packet has to pass, whose head has a size and whose kind is this one
abbrev pub front_tests : ℕ → ℕ → List ℕ → List (Bool × PacketFault)
front_tests size kind bytes =
    (nat_lt (length bytes) size, Short)
    ∷ (not (from_le_bytes w32 bytes == from_le_bytes w32 letters), OtherMagic)
    ∷ (not (slice_index bytes 4 == version), OtherVersion (slice_index bytes 4))
    ∷ (not (slice_index bytes 5 == kind), OtherKind (slice_index bytes 5))
    ∷ (not (length bytes == size + said_length bytes), Length)
    ∷ []

-- the fault that they find
unfoldable pub front_fault : ℕ → ℕ → List ℕ → Option PacketFault
front_fault size kind bytes = first_of (front_tests size kind bytes)

-- where the field begins that a fault is of
abbrev pub place_of : PacketFault → Option ℕ
place_of Short = None
place_of OtherMagic = Some 0
place_of (OtherVersion _) = Some 4
place_of (OtherKind _) = Some 5
place_of Length = Some 6
place_of (BadEnd _) = Some 24
place_of (BadFlags _) = Some 25
place_of (BadItem _) = Some 26
place_of BadInputs = Some 32
place_of (BadLast _) = Some 18
place_of LongText = Some 6
