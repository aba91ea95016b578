-- A line is covered where the items of a cycle ask for each bit that its FMMUs map: read each that the master
-- reads, and write each that it writes (IEC 61158-4-12, logical addressing and FMMU).
use Rattle.std.specs.Prelude.{◌≡◌, ◌&&◌, ℕ, Bool, true, false, List, [], ◌∷◌, length}
use Rattle.std.specs.List.{list_any}
use Rattle.ec_regs.specs.Pairs.{reads, writes}
use Rattle.ec_regs.specs.declared.fmmu.Fmmu.{Fmmu}
use Rattle.ec_wire.specs.declared.kind.Kind.{Kind}
use Rattle.ec_wire.specs.declared.kind.Kind.TheVariants.{Lrd, Lwr, Lrw, Brd, Fprd, Fpwr}
use Rattle.ec_esc.specs.State.{ControllerState}
use Rattle.ec_check.specs.Line.{fmmu_of, HasFmmu}
use Rattle.ec_check.specs.Rules.{MapsLogical}
use Rattle.ec_map.specs.Item.{ItemRecord, is_bit_of}
use Rattle.ec_map.specs.declared.covered.Way.{Way}
use Rattle.ec_map.specs.declared.covered.Way.TheVariants.{Reads, Writes}
use Rattle.ec_map.specs.declared.covered.Gap.{Gap}

-- does the master read, or write, through the FMMU
abbrev pub goes : Way → Fmmu → Bool
goes Reads f = reads f
goes Writes f = writes f

-- does an item of the kind read, or write, the logical image
abbrev pub asks : Way → Kind → Bool
asks Reads Lrd = true
asks Reads Lwr = false
asks Reads Lrw = true
asks Reads Brd = false
asks Reads Fprd = false
asks Reads Fpwr = false
asks Writes Lrd = false
asks Writes Lwr = true
asks Writes Lrw = true
asks Writes Brd = false
asks Writes Fprd = false
asks Writes Fpwr = false

-- does the item read, or write, the logical bit
abbrev pub asks_bit : Way → ℕ → ItemRecord → Bool
asks_bit way l r = asks way r.kind && is_bit_of r.address (length r.payload) l

-- does some item
abbrev pub is_asked : Way → ℕ → List ItemRecord → Bool
is_asked way l items = list_any (asks_bit way l) items

-- an FMMU of the line maps a logical bit that no item asks for
pub record IsGap (line : List ControllerState) (items : List ItemRecord) (gap : Gap) : Type 0 where
  pub there : HasFmmu line gap.slave gap.fmmu
  pub way : goes gap.way (fmmu_of line gap.slave gap.fmmu) ≡ true
  pub mapped : MapsLogical (fmmu_of line gap.slave gap.fmmu) gap.bit
  pub unasked : is_asked gap.way gap.bit items ≡ false

-- there is none
abbrev pub IsCovered : List ControllerState → List ItemRecord → Type 0
IsCovered line items = (gap : Gap) → ¬ IsGap line items gap

-- reads come before writes
abbrev pub way_number : Way → ℕ
way_number Reads = 0
way_number Writes = 1

-- by these numbers gaps are ordered: the slave, the FMMU, the way, and the bit
abbrev pub gap_numbers : Gap → List ℕ
gap_numbers gap = gap.slave ∷ gap.fmmu ∷ way_number gap.way ∷ gap.bit ∷ []
