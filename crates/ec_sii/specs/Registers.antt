-- The registers of the slave information interface are sixteen bytes: access, control and status, the address
-- of a word with its lowest byte first, and eight bytes of data (ETG.1000.4, slave information interface).
use Rattle.std.specs.Prelude.{ℕ, ◌+◌, ◌*◌, ◌/◌, ◌%◌, List, [], ◌∷◌, slice_index}
use Rattle.ec_sii.specs.declared.registers.SiiRegisters.{SiiRegisters}

-- the eight bytes from a place on
abbrev pub eight_of : List ℕ → ℕ → List ℕ
eight_of bs at =
    slice_index bs at ∷ slice_index bs (at + 1) ∷ slice_index bs (at + 2) ∷ slice_index bs (at + 3)
    ∷ slice_index bs (at + 4) ∷ slice_index bs (at + 5) ∷ slice_index bs (at + 6)
    ∷ slice_index bs (at + 7) ∷ []

-- the registers that sixteen bytes spell
abbrev pub registers_of : List ℕ → SiiRegisters
registers_of bs = record {
  access = slice_index bs 0;
  pdi = slice_index bs 1;
  control = slice_index bs 2;
  command = slice_index bs 3;
  address =
      slice_index bs 4 + 256 * slice_index bs 5 + 65536 * slice_index bs 6
      + 16777216 * slice_index bs 7;
  words = eight_of bs 8;
}

-- the bytes that spell them
abbrev pub registers_bytes : SiiRegisters → List ℕ
registers_bytes r =
    r.access ∷ r.pdi ∷ r.control ∷ r.command
    ∷ r.address % 256 ∷ r.address / 256 % 256 ∷ r.address / 65536 % 256 ∷ r.address / 16777216 % 256
    ∷ eight_of r.words 0
