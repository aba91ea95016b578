-- The FMMU record: sixteen bytes, field after field, the lowest byte of a number first (IEC 61158-4-12, FMMU
-- entity).
use Rattle.std.specs.Prelude.{ℕ, List, [], ◌∷◌, ◌++◌, take, drop, slice_index}
use Rattle.std.specs.Int.{w16, w32, to_le_bytes, from_le_bytes}
use Rattle.ec_regs.specs.declared.fmmu.Fmmu.{Fmmu}
use Rattle.ec_regs.specs.declared.fmmu.TheConstants.{LOGICAL_AT, LENGTH_AT, START_AT, STOP_AT, PHYSICAL_AT}
use Rattle.ec_regs.specs.declared.fmmu.TheConstants.{BIT_AT, KIND_AT, ACTIVATE_AT, RESERVED_AT}

-- the bytes that spell a record
abbrev pub fmmu_bytes : Fmmu → List ℕ
fmmu_bytes f =
    to_le_bytes w32 f.logical
    ++ to_le_bytes w16 f.length
    ++ f.start ∷ f.stop ∷ []
    ++ to_le_bytes w16 f.physical
    ++ f.bit ∷ f.kind ∷ f.activate ∷ []
    ++ f.reserved

-- the record that sixteen bytes spell
abbrev pub fmmu_of : List ℕ → Fmmu
fmmu_of bs = record {
  logical = from_le_bytes w32 (take 4 (drop LOGICAL_AT bs));
  length = from_le_bytes w16 (take 2 (drop LENGTH_AT bs));
  start = slice_index bs START_AT;
  stop = slice_index bs STOP_AT;
  physical = from_le_bytes w16 (take 2 (drop PHYSICAL_AT bs));
  bit = slice_index bs BIT_AT;
  kind = slice_index bs KIND_AT;
  activate = slice_index bs ACTIVATE_AT;
  reserved = take 3 (drop RESERVED_AT bs);
}
