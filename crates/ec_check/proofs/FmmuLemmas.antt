-- Bad FMMUs, number by number, and the test that finds them.
use Rattle.std.proofs.Common.{◌≡◌, ⊎_elim, inl, inr, ℕ, ◌+◌, ◌*◌, ◌-◌, ◌/◌, ◌<◌, ◌≤◌, true, false, ◌&&◌, ◌||◌}
use Rattle.std.proofs.Common.{eqb, leb, List, [], ◌∷◌, length, refl, arith}
use Rattle.std.proofs.lemmas.Bool.{and_parts, and_from, or_cases, or_left, or_right, leb-true, le-leb}
use Rattle.std.proofs.lemmas.Bool.{eqb-true, eq-eqb, cases_Bool}
use Rattle.ec_regs.specs.declared.registers.TheConstants.{FMMU_COUNT}
use Rattle.ec_regs.specs.Pairs.{is_switched_on}
use Rattle.ec_regs.specs.Pairs.{can_map, first_logical, first_physical, pair_count}
use Rattle.ec_regs.specs.declared.fmmu.Fmmu.{Fmmu}
use Rattle.ec_regs.specs.declared.fmmu.TheConstants.{LAST_BIT}
use Rattle.ec_regs.specs.declared.registers.TheConstants.{MEMORY_SIZE}
use Rattle.ec_regs.proofs.Laws.{pair_count_unmapped}
use Rattle.ec_esc.specs.State.{ControllerState}
use Rattle.ec_check.specs.declared.fault.MapFault.{MapFault}
use Rattle.ec_check.specs.declared.fault.MapFault.TheVariants.{BadFmmu}
use Rattle.ec_regs.specs.declared.registers.TheConstants.{LOGICAL_BITS}
use Rattle.ec_check.specs.Order.{BeginsWith}
use Rattle.ec_check.specs.Rules.{IsGoodFmmu, IsBadFmmu}
use Rattle.ec_check.specs.Runs.{is_good}
use Rattle.ec_check.specs.Fit.{Breaks, numbers, bad_fmmu_rule}
use Rattle.ec_check.specs.Search.{HasNone}
use Rattle.ec_check.proofs.RunLemmas.{IsInRun-MapsLogical, MapsLogical-IsInRun, IsInRun-MapsPhysical}
use Rattle.ec_check.proofs.RunLemmas.{MapsPhysical-IsInRun}
use Rattle.ec_check.proofs.SearchLemmas.{GoesOnBelow}

-- the fault goes on with a slave
pub bad_go_on : (line : List ControllerState) (bound : ℕ) → length line ≤ bound
    → GoesOnBelow (bad_fmmu_rule ∷ []) line bound
bad_go_on line bound end (BadFmmu i k) broken begins =
    (i, let there : i < length line = broken.there.slave_there in omega arith, (refl, (refl, tt)))
bad_go_on line bound end fault broken begins = absurd (omega (arith, begins.0))

-- and then with an FMMU
pub bad_of_go_on : (line : List ControllerState) (slave bound : ℕ) → FMMU_COUNT ≤ bound
    → GoesOnBelow (bad_fmmu_rule ∷ slave ∷ []) line bound
bad_of_go_on line slave bound end (BadFmmu i k) broken begins =
    (k, let there : k < FMMU_COUNT = broken.there.number_there in omega arith, (refl, (begins.1.0, (refl, tt))))
bad_of_go_on line slave bound end fault broken begins = absurd (omega (arith, begins.0))

-- there is no fault of this one if it is not bad
none_of_one : (line : List ControllerState) (slave fmmu : ℕ) → ¬ IsBadFmmu line slave fmmu
    → (fault : MapFault) → Breaks line fault
    → BeginsWith (bad_fmmu_rule ∷ slave ∷ fmmu ∷ []) (numbers fault) → ⊥
none_of_one line slave fmmu none (BadFmmu i k) broken begins = none (rw (begins.1.0, begins.1.1.0) broken)
none_of_one line slave fmmu none fault broken begins = absurd (omega (arith, begins.0))

pub HasNone-bad : (line : List ControllerState) (slave fmmu : ℕ) → ¬ IsBadFmmu line slave fmmu
    → HasNone (bad_fmmu_rule ∷ slave ∷ fmmu ∷ []) line
HasNone-bad line slave fmmu none = record { none = none_of_one line slave fmmu none }

-- ---- the test

-- an FMMU with a bit has bit fields that name bits of a byte, is switched on and has a byte
pub can_map-some : (f : Fmmu) → 1 ≤ pair_count f → can_map f ≡ true
can_map-some f some =
    ⊎_elim (λ (can : can_map f ≡ true). can)
    (λ (not : can_map f ≡ false). let none : pair_count f ≡ 0 = pair_count_unmapped f not in absurd
    (omega arith))
    (cases_Bool (can_map f))

-- what passes the test is good
pub IsGoodFmmu-is_good : (f : Fmmu) → is_good f ≡ true → IsGoodFmmu f
IsGoodFmmu-is_good f passes =
    let physical =
    and_parts
    ((eqb f.kind 1 || eqb f.kind 2) && leb 1 (pair_count f) && leb
    (first_logical f + pair_count f) LOGICAL_BITS)
    (leb (first_physical f + pair_count f) (8 * MEMORY_SIZE)) passes in
    let logical = and_parts ((eqb f.kind 1 || eqb f.kind 2) && leb 1 (pair_count f))
    (leb (first_logical f + pair_count f) LOGICAL_BITS) physical.0 in
    let kind = and_parts (eqb f.kind 1 || eqb f.kind 2) (leb 1 (pair_count f)) logical.0 in
    let some : 1 ≤ pair_count f = leb-true 1 (pair_count f) kind.1 in
    let in_logical : first_logical f + pair_count f ≤ LOGICAL_BITS =
    leb-true (first_logical f + pair_count f) LOGICAL_BITS logical.1 in
    let in_memory : first_physical f + pair_count f ≤ 8 * MEMORY_SIZE =
    leb-true (first_physical f + pair_count f) (8 * MEMORY_SIZE) physical.1 in
    let can = can_map-some f some in
    let bit =
    and_parts (is_switched_on f && leb 1 f.length && leb f.start LAST_BIT && leb f.stop LAST_BIT)
    (leb f.bit LAST_BIT) can in
    let stop =
    and_parts (is_switched_on f && leb 1 f.length && leb f.start LAST_BIT) (leb f.stop LAST_BIT) bit.0 in
    let start = and_parts (is_switched_on f && leb 1 f.length) (leb f.start LAST_BIT) stop.0 in
    record {
      kind = ⊎_elim (λ (one : eqb f.kind 1 ≡ true). inl (eqb-true f.kind 1 one))
          (λ (two : eqb f.kind 2 ≡ true). inr (eqb-true f.kind 2 two))
          (or_cases (eqb f.kind 1) (eqb f.kind 2) kind.0);
      start = leb-true f.start LAST_BIT start.1;
      stop = leb-true f.stop LAST_BIT stop.1;
      bit = leb-true f.bit LAST_BIT bit.1;
      some_bit = (
        first_logical f,
        MapsLogical-IsInRun f (first_logical f)
            (record { from = omega arith; to = omega arith }),
      );
      logical = λ l maps. let to : l < first_logical f + pair_count f =
          (IsInRun-MapsLogical f l maps).to in omega arith;
      physical = λ p maps. let to : p < first_physical f + pair_count f =
          (IsInRun-MapsPhysical f p maps).to in omega arith;
    }

-- and what is good passes it
pub is_good-IsGoodFmmu : (f : Fmmu) → IsGoodFmmu f → is_good f ≡ true
is_good-IsGoodFmmu f good =
    let l : ℕ = good.some_bit.0 in
    let inside = IsInRun-MapsLogical f l good.some_bit.1 in
    let from : first_logical f ≤ l = inside.from in
    let to : l < first_logical f + pair_count f = inside.to in
    let last_logical : first_logical f + (pair_count f - 1) < LOGICAL_BITS =
    good.logical (first_logical f + (pair_count f - 1))
    (MapsLogical-IsInRun f _ (record { from = omega arith; to = omega arith })) in
    let last_physical : (first_physical f + (pair_count f - 1)) / 8 < MEMORY_SIZE =
    good.physical (first_physical f + (pair_count f - 1))
    (MapsPhysical-IsInRun f _ (record { from = omega arith; to = omega arith })) in
    let kind : (eqb f.kind 1 || eqb f.kind 2) ≡ true =
    ⊎_elim
    (λ (one : f.kind ≡ 1). or_left (eqb f.kind 1) (eqb f.kind 2) (eq-eqb f.kind 1 one))
    (λ (two : f.kind ≡ 2). or_right (eqb f.kind 1) (eqb f.kind 2) (eq-eqb f.kind 2 two))
    good.kind in
    let some : leb 1 (pair_count f) ≡ true = le-leb 1 (pair_count f) (omega arith) in
    let in_logical : leb (first_logical f + pair_count f) LOGICAL_BITS ≡ true =
    le-leb (first_logical f + pair_count f) LOGICAL_BITS (omega arith) in
    let in_memory : leb (first_physical f + pair_count f) (8 * MEMORY_SIZE) ≡ true =
    le-leb (first_physical f + pair_count f) (8 * MEMORY_SIZE) (omega arith) in
    and_from _ _ (and_from _ _ (and_from _ _ kind some) in_logical) in_memory
