-- Gaps of a line, number by number.
use Rattle.std.proofs.Common.{◌≡◌, ℕ, ◌+◌, ◌-◌, ◌<◌, ◌≤◌, true, false, List, [], ◌∷◌, length, refl, arith}
use Rattle.std.proofs.Common.{Option, None, Some, leb, ltb, ◌*◌}
use Rattle.std.specs.Cmp.Derive.{both_true}
use Rattle.std.proofs.lemmas.Bool.{and_parts, leb-true, ltb-true, le-leb, lt-ltb}
use Rattle.ec_regs.specs.declared.registers.TheConstants.{FMMU_COUNT}
use Rattle.ec_regs.specs.Pairs.{first_logical, first_physical, pair_count}
use Rattle.ec_regs.specs.declared.fmmu.Fmmu.{Fmmu}
use Rattle.ec_esc.specs.State.{ControllerState}
use Rattle.ec_check.specs.Order.{BeginsWith, IsLowest}
use Rattle.ec_check.specs.Rules.{MapsLogical}
use Rattle.ec_check.specs.Line.{fmmu_of}
use Rattle.ec_map.specs.Item.{ItemRecord, is_bit_of}
use Rattle.ec_map.specs.First.{HasNone, IsFirstOf}
use Rattle.ec_map.specs.Covered.{asks, asks_bit, is_asked, goes, IsGap, gap_numbers, way_number}
use Rattle.ec_map.specs.declared.covered.Way.{Way}
use Rattle.ec_map.specs.declared.covered.Way.TheVariants.{Reads, Writes}
use Rattle.ec_map.specs.declared.covered.Gap.{Gap}
use Rattle.ec_map.proofs.FirstLemmas.{GoesOnBelow, IsFirstOf-itself, IsFirstOf-shorter}

-- ---- bits that are asked for

-- a logical bit that is mapped is one of a run, and one of the run is mapped
pub in_run : (f : Fmmu) (l : ℕ) → MapsLogical f l
    → (first_logical f ≤ l) × (l < first_logical f + pair_count f)
in_run f l (p, (j, at)) =
    let mapped : j < pair_count f = at.mapped in
    let place : l ≡ first_logical f + j = at.logical in
    (omega arith, omega arith)

pub from_run : (f : Fmmu) (l : ℕ) → first_logical f ≤ l → l < first_logical f + pair_count f
    → MapsLogical f l
from_run f l from to = (
  first_physical f + (l - first_logical f),
  (l - first_logical f, record { mapped = omega arith; logical = omega arith; physical = refl }),
)

-- the lowest bit of the run that no item asks for is the lowest that the FMMU maps
pub IsLowest-run : (f : Fmmu) (way : Way) (items : List ItemRecord) (o : Option ℕ)
    → IsLowest (λ l. (first_logical f ≤ l) × (l < first_logical f + pair_count f)
    × (is_asked way l items ≡ false)) o
    → IsLowest (λ l. MapsLogical f l × (is_asked way l items ≡ false)) o
IsLowest-run f way items None none = λ l gap.
    let inside = in_run f l gap.0 in none l (inside.0, inside.1, gap.1)
IsLowest-run f way items (Some l) lowest = (
  (from_run f l lowest.0.0 lowest.0.1, lowest.0.2),
  λ m gap. let inside = in_run f m gap.0 in lowest.1 m (inside.0, inside.1, gap.1),
)

-- each bit from one that an item asks for up to the item's end is one that it asks for
pub asked_run : (way : Way) (bit : ℕ) (r : ItemRecord) → asks_bit way bit r ≡ true
    → (bit < 8 * (r.address + length r.payload))
    × ((l : ℕ) → bit ≤ l → l < 8 * (r.address + length r.payload) → asks_bit way l r ≡ true)
asked_run way bit r e =
    let first : ℕ = 8 * r.address in
    let bits : ℕ = 8 * length r.payload in
    let parts = and_parts (asks way r.kind) (is_bit_of r.address (length r.payload) bit) e in
    let place = and_parts (leb first bit) (ltb (bit - first) bits) parts.1 in
    let from : first ≤ bit = leb-true first bit place.0 in
    let to : bit - first < bits = ltb-true (bit - first) bits place.1 in (
      omega (arith, from, to),
      λ l above below. both_true parts.0
          (both_true (le-leb first l (omega (arith, from, above)))
          (lt-ltb (l - first) bits (omega (arith, from, above, below)))),
    )

-- ---- gaps by their numbers

-- a gap goes on with a slave
pub gap_slave : (line : List ControllerState) (items : List ItemRecord) (bound : ℕ) → length line ≤ bound
    → GoesOnBelow gap_numbers (IsGap line items) [] bound
gap_slave line items bound end gap is begins =
    (gap.slave, let there : gap.slave < length line = is.there.slave_there in omega arith, (refl, tt))

-- then with an FMMU
pub gap_fmmu : (line : List ControllerState) (items : List ItemRecord) (slave bound : ℕ) → FMMU_COUNT ≤ bound
    → GoesOnBelow gap_numbers (IsGap line items) (slave ∷ []) bound
gap_fmmu line items slave bound end gap is begins = (
  gap.fmmu,
  let there : gap.fmmu < FMMU_COUNT = is.there.number_there in omega arith,
  (begins.0, (refl, tt)),
)

-- ways with one number are the same
way_same : (way other : Way) → way_number way ≡ way_number other → way ≡ other
way_same Reads Reads e = refl
way_same Reads Writes e = absurd (omega (arith, e))
way_same Writes Reads e = absurd (omega (arith, e))
way_same Writes Writes e = refl

-- what is known of a gap whose numbers begin so
pub gap_of : (line : List ControllerState) (items : List ItemRecord) (slave fmmu : ℕ) (way : Way) (gap : Gap)
    → IsGap line items gap → BeginsWith (slave ∷ fmmu ∷ way_number way ∷ []) (gap_numbers gap)
    → (goes way (fmmu_of line slave fmmu) ≡ true) × MapsLogical (fmmu_of line slave fmmu) gap.bit
    × (is_asked way gap.bit items ≡ false)
gap_of line items slave fmmu way gap is begins =
    let same : way ≡ gap.way = way_same way gap.way begins.1.1.0 in (
      rw (begins.0, begins.1.0, same) is.way,
      rw (begins.0, begins.1.0) is.mapped,
      rw (same) is.unasked,
    )

-- there is none on a way if no bit is one
pub HasNone-way : (line : List ControllerState) (items : List ItemRecord) (slave fmmu : ℕ) (way : Way)
    → ((l : ℕ) → goes way (fmmu_of line slave fmmu) ≡ true → MapsLogical (fmmu_of line slave fmmu) l
    → is_asked way l items ≡ false → ⊥)
    → HasNone gap_numbers (IsGap line items) (slave ∷ fmmu ∷ way_number way ∷ [])
HasNone-way line items slave fmmu way none = record {
  none = λ gap is begins.
      let known = gap_of line items slave fmmu way gap is begins in none gap.bit known.0 known.1 known.2;
}

-- and the first is that of the lowest bit
pub IsFirstOf-way : (line : List ControllerState) (items : List ItemRecord) (gap : Gap) → IsGap line items gap
    → ((l : ℕ) → MapsLogical (fmmu_of line gap.slave gap.fmmu) l → is_asked gap.way l items ≡ false
    → gap.bit ≤ l)
    → IsFirstOf gap_numbers (IsGap line items) (gap.slave ∷ gap.fmmu ∷ way_number gap.way ∷ []) gap
IsFirstOf-way line items gap is lowest =
    IsFirstOf-shorter gap_numbers (IsGap line items) (gap.slave ∷ gap.fmmu ∷ way_number gap.way ∷ []) gap.bit
    gap
    (λ n below. record {
      none = λ other is_other begins.
          let known = gap_of line items gap.slave gap.fmmu gap.way other is_other
          (begins.0, (begins.1.0, (begins.1.1.0, tt))) in
          let same : n ≡ other.bit = begins.1.1.1.0 in
          let least = lowest other.bit known.1 known.2 in
          absurd (omega arith);
    })
    (IsFirstOf-itself gap_numbers (IsGap line items) gap is)
