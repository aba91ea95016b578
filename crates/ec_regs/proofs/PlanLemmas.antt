-- The plan of an FMMU has its pairs.
use Rattle.std.proofs.Common.{◌≡◌, ◌≢◌, ◌↔◌, ℕ, ◌+◌, ◌-◌, ◌*◌, ◌/◌, ◌%◌, ◌^◌, ◌<◌, ◌≤◌, Bool, true, false}
use Rattle.std.proofs.Common.{cond, ltb, leb, eqb, pos, ◌+ℤ◌, ◌-ℤ◌, ℤ, sym, ◌∙◌, ap, refl, arith, ⊎_elim}
use Rattle.std.specs.Prelude.{bit_and, min}
use Rattle.std.specs.Int.{bit_at, w8}
use mir.Val.{to_z, of_z}
use Rattle.std.proofs.lemmas.Bool.{cases_Bool, cases_lt, cases_eq}
use Rattle.std.proofs.lemmas.Bool.Decides.{nat_tests}
use Rattle.std.proofs.lemmas.Int.{ints}
use Rattle.std.proofs.lemmas.Nat.Bits.{bit_at_and, bit_at_mask_inside, bit_at_mask_below, bit_at_ones}
use Rattle.std.proofs.lemmas.Nat.Bits.{bit_at_ones_above, ones_shl, ones_shr}
use Rattle.ec_regs.specs.declared.fmmu.Fmmu.{Fmmu}
use Rattle.ec_regs.specs.Pairs.{IsPair, can_map, pair_count, first_logical, first_physical}
use Rattle.ec_regs.specs.Plan.{Pairs, mask_at, mask_from, mask_to, mapped_plan, no_plan, plan_of}
use Rattle.ec_regs.proofs.PairLemmas.{pair_count_mapped, pair_count_unmapped}

-- ---- an FMMU that maps

-- what holds of one that maps a bit
pub record Maps (f : Fmmu) : Type 0 where
  pub has_byte : 1 ≤ f.length
  pub start : f.start < 8
  pub stop : f.stop < 8
  pub bit : f.bit < 8
  pub count : pair_count f ≡ 8 * (f.length - 1) + f.stop + 1 - f.start
  pub some : 0 < pair_count f

-- its fields are as the record that may map has them
fields_of : (f : Fmmu) → can_map f ≡ true → (1 ≤ f.length) × (f.start < 8) × (f.stop < 8) × (f.bit < 8)
fields_of f may = grind (arith, nat_tests)

pub Maps-pair_count : (f : Fmmu) → 0 < pair_count f → Maps f
Maps-pair_count f some =
    ⊎_elim
    (λ (may : can_map f ≡ true).
    let fields = fields_of f may in
    record {
      has_byte = fields.0;
      start = fields.1;
      stop = fields.2;
      bit = fields.3;
      count = pair_count_mapped f may;
      some = some;
    })
    (λ (may_not : can_map f ≡ false). absurd (omega (arith, pair_count_unmapped f may_not)))
    (cases_Bool (can_map f))

-- ---- masks

-- the code's masks
pub mask_from_is : (start : ℕ) → start < 8 → 255 * 2 ^ start % 256 ≡ mask_from start
mask_from_is start below = ones_shl 8 start (omega arith)

pub mask_to_is : (stop : ℕ) → stop < 8 → 255 / 2 ^ (7 - stop) ≡ mask_to stop
mask_to_is stop below =
    let width : 8 - (7 - stop) ≡ stop + 1 = omega arith in
    ones_shr 8 (7 - stop) (omega arith) ∙ ap (λ k. 2 ^ k - 1) width

-- bit b of byte number k of the run is mapped: it does not stand before the first bit, nor behind the last
-- one
abbrev pub IsMasked : Fmmu → ℕ → ℕ → Type 0
IsMasked f k b = (k ≡ 0 → f.start ≤ b) × (k + 1 ≡ f.length → b ≤ f.stop)

-- the masks of the bits from one on, up to one, and of both
bit_from : (s b : ℕ) → b < 8 → bit_at (mask_from s) b ≡ cond (leb s b) 1 0
bit_from s b below =
    ⊎_elim
    (λ (before : b < s). let test : leb s b ≡ false =
    grind (arith, nat_tests) in rw test (bit_at_mask_below s 8 b before))
    (λ (starts : s ≤ b). let test : leb s b ≡ true =
    grind (arith, nat_tests) in rw test (bit_at_mask_inside s 8 b starts below))
    (cases_lt b s)

bit_to : (t b : ℕ) → bit_at (mask_to t) b ≡ cond (leb b t) 1 0
bit_to t b =
    ⊎_elim
    (λ (behind : t < b). let test : leb b t ≡ false =
    grind (arith, nat_tests) in rw test (bit_at_ones_above (t + 1) b (omega arith)))
    (λ (ends : b ≤ t). let test : leb b t ≡ true =
    grind (arith, nat_tests) in rw test (bit_at_ones (t + 1) b (omega arith)))
    (cases_lt t b)

bit_both : (s t b : ℕ) → b < 8 → bit_at (bit_and (mask_from s) (mask_to t)) b
    ≡ min (cond (leb s b) 1 0) (cond (leb b t) 1 0)
bit_both s t b below =
    bit_at_and (mask_from s) (mask_to t) b
    ∙ ap (λ x. min x (bit_at (mask_to t) b)) (bit_from s b below) ∙ ap (min (cond (leb s b) 1 0)) (bit_to t b)

-- a bit of a number that three tests choose
chosen_bit : (first one last : Bool) (b both from to all both' from' to' all' : ℕ) → bit_at both b
    ≡ both' → bit_at from b ≡ from'
    → bit_at to b ≡ to' → bit_at all b ≡ all'
    → bit_at (cond first (cond one both from) (cond last (cond one both to) all)) b
    ≡ cond first (cond one both' from') (cond last (cond one both' to') all')
chosen_bit true true last b both from to all both' from' to' all' both_is from_is to_is all_is = both_is
chosen_bit true false last b both from to all both' from' to' all' both_is from_is to_is all_is = from_is
chosen_bit false true true b both from to all both' from' to' all' both_is from_is to_is all_is = both_is
chosen_bit false false true b both from to all both' from' to' all' both_is from_is to_is all_is = to_is
chosen_bit false one false b both from to all both' from' to' all' both_is from_is to_is all_is = all_is

-- a bit of the mask of byte number k
mask_bit : (f : Fmmu) (k b : ℕ) → b < 8 → bit_at (mask_at (mapped_plan f) k) b
    ≡ cond (eqb k 0) (cond (eqb f.length 1) (min (cond (leb f.start b) 1 0) (cond (leb b f.stop) 1 0))
    (cond (leb f.start b) 1 0))
    (cond (eqb (k + 1) f.length) (cond (eqb f.length 1) (min (cond (leb f.start b) 1 0) (cond
    (leb b f.stop) 1 0)) (cond (leb b f.stop) 1 0)) 1)
mask_bit f k b below =
    chosen_bit (eqb k 0) (eqb f.length 1) (eqb (k + 1) f.length) b _ _ _ _ _ _ _ _
    (bit_both f.start f.stop b below) (bit_from f.start b below)
    (bit_to f.stop b) (bit_at_ones 8 b below)

-- a bit of the mask is mapped
pub IsMasked-mask_at : (f : Fmmu) (k b : ℕ) → b < 8 → bit_at (mask_at (mapped_plan f) k) b ≡ 1
    → IsMasked f k b
IsMasked-mask_at f k b below one =
    let is = sym (mask_bit f k b below) ∙ one in
    ((λ first. grind (arith, nat_tests)), (λ last. grind (arith, nat_tests)))

-- and a mapped bit is a bit of the mask
pub mask_at-IsMasked : (f : Fmmu) (k b : ℕ) → b < 8 → k < f.length → IsMasked f k b
    → bit_at (mask_at (mapped_plan f) k) b ≡ 1
mask_at-IsMasked f k b below inside is =
    let starts : k ≡ 0 → f.start ≤ b = is.0 in
    let ends : k + 1 ≡ f.length → b ≤ f.stop = is.1 in
    mask_bit f k b below ∙ grind (arith, nat_tests)

-- ---- the record of a plan

-- the code's distance between two bits of a byte
pub distance_is : (bit start : ℕ) → bit < 8 → start < 8
    → to_z w8 (of_z w8 (to_z w8 bit -ℤ to_z w8 start)) ≡ pos bit -ℤ pos start
distance_is bit start bit_below start_below = omega (arith, ints)

-- what stands where there is one byte, and where there are more
pub taken_at_one : (n x y : ℕ) → n ≡ 1 → x ≡ cond (eqb n 1) x y
taken_at_one n x y one = rw one refl

pub taken_elsewhere : (n x y : ℕ) → n ≢ 1 → y ≡ cond (eqb n 1) x y
taken_elsewhere n x y other = let test : eqb n 1 ≡ false = grind (arith, nat_tests) in rw test refl

-- a plan that is made of these masks and this distance is that of an FMMU that maps
pub mapped_plan_is : (f : Fmmu) (first last : ℕ) (distance : ℤ) → 0 < pair_count f → first
    ≡ (mapped_plan f).first_mask
    → last ≡ (mapped_plan f).last_mask → distance ≡ pos f.bit -ℤ pos f.start
    → record {
      is_mapped = true;
      logical = f.logical;
      physical = f.physical;
      length = f.length;
      first_mask = first;
      last_mask = last;
      distance = distance;
    } ≡ plan_of f
unfolding plan_of
mapped_plan_is f first last distance some first_is last_is distance_equals =
    let maps : ltb 0 (pair_count f) ≡ true = grind (arith, nat_tests) in
    rw (maps, first_is, last_is, distance_equals) refl

-- the plan of one that maps nothing
pub no_plan_is : (f : Fmmu) → pair_count f ≡ 0 → no_plan ≡ plan_of f
unfolding plan_of
no_plan_is f none = rw none refl

-- ---- pairs

-- a pair of the plan is a pair of the FMMU
pub IsPair-Pairs : (f : Fmmu) (l p : ℕ) → Maps f → Pairs (mapped_plan f) l p → IsPair f l p
IsPair-Pairs f l p maps pair =
    let k = l / 8 - f.logical in
    let b = l % 8 in
    let masked = IsMasked-mask_at f k b (omega arith) pair.masked in
    let j = l - first_logical f in
    let starts : f.logical ≤ l / 8 = pair.starts in
    let ends : l / 8 < f.logical + f.length = pair.ends in
    let after_start : first_logical f ≤ l =
    ⊎_elim (λ (first : k ≡ 0). let h : f.start ≤ b =
    masked.0 first in omega arith) (λ (other : k ≢ 0). omega (arith, maps.start)) (cases_eq k 0) in
    let before_stop : j < pair_count f =
    ⊎_elim (λ (last : k + 1 ≡ f.length). let h : b ≤ f.stop =
    masked.1 last in omega (arith, maps.count)) (λ (other : k + 1 ≢ f.length). omega
    (arith, maps.count, maps.start))
    (cases_eq (k + 1) f.length) in
    let moved : pos (p + 8 * f.logical) ≡ pos (l + 8 * f.physical) +ℤ (pos f.bit -ℤ pos f.start) =
    pair.moved in
    (j, record { mapped = before_stop; logical = omega arith; physical = omega (arith, ints) })

-- and the other way round
pub Pairs-IsPair : (f : Fmmu) (l p : ℕ) → Maps f → IsPair f l p → Pairs (mapped_plan f) l p
Pairs-IsPair f l p maps (j, at) =
    let mapped : j < pair_count f = at.mapped in
    let logical : l ≡ first_logical f + j = at.logical in
    let physical : p ≡ first_physical f + j = at.physical in
    let k = l / 8 - f.logical in
    record {
      mapped = refl;
      starts = omega (arith, maps.start);
      ends = omega (arith, maps.count, maps.stop, maps.has_byte);
      masked = mask_at-IsMasked f k (l % 8) (omega arith) (omega
          (arith, maps.count, maps.stop, maps.has_byte)) (
            (λ first. omega (arith, maps.start)),
            (λ last. omega
                (arith, maps.count, maps.stop, maps.has_byte)),
          );
      moved = omega (arith, ints);
    }

-- the pairs of the plan of an FMMU are its pairs
pub Pairs-plan_of : (f : Fmmu) (l p : ℕ) → Pairs (plan_of f) l p ↔ IsPair f l p
unfolding plan_of
Pairs-plan_of f l p =
    ⊎_elim
    (λ (some : 0 < pair_count f).
    let maps : ltb 0 (pair_count f) ≡ true = grind (arith, nat_tests) in
    rw maps (
      (λ pair. IsPair-Pairs f l p (Maps-pair_count f some) pair),
      (λ pair. Pairs-IsPair f l p
          (Maps-pair_count f some) pair),
    ))
    (λ (none : pair_count f ≤ 0).
    let maps_not : ltb 0 (pair_count f) ≡ false = grind (arith, nat_tests) in
    rw maps_not (
      (λ pair. absurd (let h : false
          ≡ true = pair.mapped in cc)),
      (λ pair. absurd (let h : pair.0 < pair_count f =
          pair.1.mapped in omega arith)),
    ))
    (cases_lt 0 (pair_count f))
