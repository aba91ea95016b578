-- The pairs of an FMMU as a set and as two partial functions, and one pair more.
use Rattle.std.proofs.Common.{◌≡◌, ℕ, ◌+◌, ◌-◌, ◌*◌, ◌<◌, ◌≤◌, true, false, cond, ltb, leb, None, Some}
use Rattle.std.proofs.Common.{ap, refl, arith, ⊎_elim}
use Rattle.std.proofs.lemmas.Bool.{cases_lt}
use Rattle.std.proofs.lemmas.Bool.Decides.{nat_tests}
use Rattle.ec_regs.specs.declared.fmmu.Fmmu.{Fmmu}
use Rattle.ec_regs.specs.Pairs.{pair_count, can_map, partner}

-- ---- the partner of a bit in a run

-- bit number j of a run goes to bit number j
pub partner_inside : (from to n i j : ℕ) → i ≡ from + j → j < n → partner from to n i ≡ Some (to + j)
unfolding partner
partner_inside from to n i j at inside =
    let offset : i - from ≡ j = omega arith in
    let starts : leb from i ≡ true = grind (arith, nat_tests) in
    let ends : ltb (i - from) n ≡ true = grind (arith, nat_tests) in
    rw (starts, ends, offset) refl

-- a bit before the run has no partner
pub partner_before : (from to n i : ℕ) → i < from → partner from to n i ≡ None
unfolding partner
partner_before from to n i before =
    let starts : leb from i ≡ false = grind (arith, nat_tests) in rw starts refl

-- nor has one behind it
pub partner_behind : (from to n i : ℕ) → from + n ≤ i → partner from to n i ≡ None
unfolding partner
partner_behind from to n i behind =
    let starts : leb from i ≡ true = grind (arith, nat_tests) in
    let ends : ltb (i - from) n ≡ false = grind (arith, nat_tests) in
    rw (starts, ends) refl

-- a run of no bits has no partners
pub partner_none : (from to i : ℕ) → partner from to 0 i ≡ None
partner_none from to i =
    ⊎_elim (λ (before : i < from). partner_before from to 0 i before) (λ
    (behind : from ≤ i). partner_behind from to 0 i (omega arith))
    (cases_lt i from)

-- a bit with a partner is a bit of the run
pub partner_is : (from to n i p : ℕ) → partner from to n i ≡ Some p → (j : ℕ) × (j < n) × (i
    ≡ from + j) × (p ≡ to + j)
partner_is from to n i p e =
    ⊎_elim
    (λ (before : i < from). absurd (let none : partner from to n i
    ≡ None = partner_before from to n i before in cc))
    (λ (starts : from ≤ i).
    ⊎_elim
    (λ (inside : i < from + n).
    let some : partner from to n i ≡ Some (to + (i - from)) =
    partner_inside from to n i (i - from) (omega arith) (omega arith) in
    (i - from, omega arith, omega arith, cc))
    (λ (behind : from + n ≤ i). absurd (let none : partner from to n i
    ≡ None = partner_behind from to n i behind in cc))
    (cases_lt i (from + n)))
    (cases_lt i from)

-- ---- pairs

-- an FMMU that may map has the bits from its start bit to its stop bit
pub pair_count_mapped : (f : Fmmu) → can_map f ≡ true → pair_count f
    ≡ 8 * (f.length - 1) + f.stop + 1 - f.start
unfolding pair_count
pair_count_mapped f e = ap (λ b. cond b (8 * (f.length - 1) + f.stop + 1 - f.start) 0) e

-- any other has none
pub pair_count_unmapped : (f : Fmmu) → can_map f ≡ false → pair_count f ≡ 0
unfolding pair_count
pair_count_unmapped f e = ap (λ b. cond b (8 * (f.length - 1) + f.stop + 1 - f.start) 0) e
