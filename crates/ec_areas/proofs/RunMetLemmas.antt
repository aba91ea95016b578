-- The run that data and an FMMU share is cut out of the FMMU's run by the ends of the data and of the
-- logical range.
use Rattle.std.proofs.Common.{◌≡◌, ℕ, ◌+◌, ◌-◌, ◌*◌, ◌<◌, ◌≤◌, Bool, true, false, cond, ltb, leb, Option}
use Rattle.std.proofs.Common.{None, Some, sym, ◌∙◌, ap, refl, arith, inl, inr, ⊎_elim}
use Rattle.std.specs.Prelude.{min, max}
use Rattle.std.proofs.lemmas.Bool.{cases_lt}
use Rattle.std.proofs.lemmas.Bool.Decides.{nat_tests}
use Rattle.ec_regs.specs.Pairs.{partner}
use Rattle.ec_regs.specs.declared.registers.TheConstants.{LOGICAL_BITS, LOGICAL_BYTES}
use Rattle.ec_regs.proofs.Laws.{partner_none, partner_inside, partner_before, partner_behind}
use Rattle.ec_areas.specs.Logical.{place_if, number_within}

-- the logical bits from `start` to `end` are those of a run of `count` from `first` on that are among the n
-- from `from` on and in the logical range
pub record IsCut (first count from n start end : ℕ) : Type 0 where
  pub after_first : first ≤ start
  pub after_from : from ≤ start
  pub before_last : end ≤ first + count
  pub before_end : end ≤ from + n
  pub in_range : end ≤ LOGICAL_BITS
  pub starts : (l : ℕ) → first ≤ l → from ≤ l → start ≤ l
  pub ends : (l : ℕ) → l < first + count → l < from + n → l < LOGICAL_BITS → l < end

-- the greater of the two starts and the least of the ends make the cut
pub IsCut-ends : (first count from bytes to start end : ℕ) → to
    ≡ min LOGICAL_BITS (from + 8 * min LOGICAL_BYTES bytes)
    → start ≡ max first from → end ≡ min to (first + count) → IsCut first count from (8 * bytes) start end
IsCut-ends first count from bytes to start end to_is start_is end_is = record {
  after_first = omega arith;
  after_from = omega arith;
  before_last = omega arith;
  before_end = omega arith;
  in_range = omega arith;
  starts = λ l after_first after_from. omega arith;
  ends = λ l before_last before_end exists. omega arith;
}

-- what is nothing stays nothing under a condition
none_if : (b : Bool) (o : Option ℕ) → o ≡ None → cond b o None ≡ None
none_if true o none = none
none_if false o none = refl

-- the physical bit of a data bit is that of the cut run
pub physical-cut : (first to count from n start end i : ℕ) → IsCut first count from n start end → i < n
    → partner (start - from) (to + (start - first)) (end - start) i
    ≡ cond (ltb (from + i) LOGICAL_BITS) (partner first to count (from + i)) None
physical-cut first to count from n start end i cut inside =
    let at = start - from in
    let after_first : first ≤ start = cut.after_first in
    let after_from : from ≤ start = cut.after_from in
    let before_last : end ≤ first + count = cut.before_last in
    let in_range : end ≤ LOGICAL_BITS = cut.in_range in
    ⊎_elim
    (λ (before : from + i < start).
    partner_before at (to + (start - first)) (end - start) i (omega arith)
    ∙ ⊎_elim
    (λ (early : from + i < first). sym (none_if (ltb (from + i) LOGICAL_BITS) _
    (partner_before first to count (from + i) early)))
    (λ (late : first ≤ from + i). let starts : start ≤ from + i =
    cut.starts (from + i) late (omega arith) in absurd (omega arith))
    (cases_lt (from + i) first))
    (λ (starts : start ≤ from + i).
    ⊎_elim
    (λ (ends : from + i < end).
    let test : ltb (from + i) LOGICAL_BITS ≡ true = grind (arith, nat_tests) in
    let place : to + (start - first) + (i - at) ≡ to + (from + i - first) = omega arith in
    partner_inside at (to + (start - first)) (end - start) i (i - at) (omega arith) (omega arith)
    ∙ ap Some place
    ∙ sym (ap (λ t. cond t (partner first to count (from + i)) None) test
    ∙ partner_inside first to count (from + i) (from + i - first) (omega arith) (omega arith)))
    (λ (behind : end ≤ from + i).
    partner_behind at (to + (start - first)) (end - start) i (omega arith)
    ∙ ⊎_elim
    (λ (exists : from + i < LOGICAL_BITS).
    ⊎_elim
    (λ (short : from + i < first + count). let ends : from + i < end =
    cut.ends (from + i) short (omega arith) exists in absurd (omega arith))
    (λ (long : first + count ≤ from + i). sym (none_if (ltb (from + i) LOGICAL_BITS) _
    (partner_behind first to count (from + i) long)))
    (cases_lt (from + i) (first + count)))
    (λ (past : LOGICAL_BITS ≤ from + i).
    let test : ltb (from + i) LOGICAL_BITS ≡ false = grind (arith, nat_tests) in
    sym (ap (λ t. cond t (partner first to count (from + i)) None) test))
    (cases_lt (from + i) LOGICAL_BITS))
    (cases_lt (from + i) end))
    (cases_lt (from + i) start)

-- a logical bit that exists and lies among the data has a number
number_inside : (from n l : ℕ) → l < LOGICAL_BITS → from ≤ l → l < from + n
    → number_within from n (place_if (λ m. ltb m LOGICAL_BITS) (Some l)) ≡ Some (l - from)
number_inside from n l exists starts ends =
    let exists_is : ltb l LOGICAL_BITS ≡ true = grind (arith, nat_tests) in
    let starts_is : leb from l ≡ true = grind (arith, nat_tests) in
    let ends_is : ltb (l - from) n ≡ true = grind (arith, nat_tests) in
    rw exists_is (rw (starts_is, ends_is) refl)

-- any other has none
number_outside : (from n l : ℕ) → (l < LOGICAL_BITS → from ≤ l → l < from + n → ⊥)
    → number_within from n (place_if (λ m. ltb m LOGICAL_BITS) (Some l)) ≡ None
number_outside from n l not_all =
    ⊎_elim
    (λ (past : LOGICAL_BITS ≤ l). let exists_is : ltb l LOGICAL_BITS
    ≡ false = grind (arith, nat_tests) in rw exists_is refl)
    (λ (exists : l < LOGICAL_BITS).
    let exists_is : ltb l LOGICAL_BITS ≡ true = grind (arith, nat_tests) in
    rw exists_is
    (⊎_elim
    (λ (before : l < from). let starts_is : leb from l
    ≡ false = grind (arith, nat_tests) in rw starts_is refl)
    (λ (starts : from ≤ l).
    let starts_is : leb from l ≡ true = grind (arith, nat_tests) in
    ⊎_elim
    (λ (behind : from + n ≤ l). let ends_is : ltb (l - from) n
    ≡ false = grind (arith, nat_tests) in rw (starts_is, ends_is) refl)
    (λ (inside : l < from + n). absurd (not_all exists starts inside))
    (⊎_elim (λ (inside : l < from + n). inr inside) (λ (behind : from + n ≤ l). inl behind) (cases_lt l
    (from + n))))
    (cases_lt l from)))
    (⊎_elim (λ (exists : l < LOGICAL_BITS). inr exists) (λ (past : LOGICAL_BITS ≤ l). inl past)
    (cases_lt l LOGICAL_BITS))

-- and the data bit of a physical bit is that of the cut run, laid the other way
pub data-cut : (first to count from n start end p : ℕ) → IsCut first count from n start end
    → partner (to + (start - first)) (start - from) (end - start) p
    ≡ number_within from n (place_if (λ l. ltb l LOGICAL_BITS) (partner to first count p))
data-cut first to count from n start end p cut =
    let after_first : first ≤ start = cut.after_first in
    let after_from : from ≤ start = cut.after_from in
    let before_last : end ≤ first + count = cut.before_last in
    let before_end : end ≤ from + n = cut.before_end in
    let in_range : end ≤ LOGICAL_BITS = cut.in_range in
    let cut_to = to + (start - first) in
    let kept : Option ℕ → Option ℕ = λ o. number_within from n (place_if (λ l. ltb l LOGICAL_BITS) o) in
    ⊎_elim
    (λ (before : p < to).
    partner_before cut_to (start - from) (end - start) p (omega arith)
    ∙ sym (ap kept (partner_before to first count p before)))
    (λ (starts : to ≤ p).
    ⊎_elim
    (λ (inside : p < to + count).
    let l = first + (p - to) in
    let whole : partner to first count p ≡ Some l =
    partner_inside to first count p (p - to) (omega arith) (omega arith) in
    ⊎_elim
    (λ (early : l < start).
    partner_before cut_to (start - from) (end - start) p (omega arith)
    ∙ sym (ap kept whole ∙ number_outside from n l (λ exists from_on in_data. let h : start ≤ l =
    cut.starts l (omega arith) from_on in omega arith)))
    (λ (late : start ≤ l).
    ⊎_elim
    (λ (ends : l < end).
    let number : l - from ≡ start - from + (p - cut_to) = omega arith in
    partner_inside cut_to (start - from) (end - start) p (p - cut_to) (omega arith) (omega arith)
    ∙ ap Some (sym number)
    ∙ sym (ap kept whole ∙ number_inside from n l (omega arith) (omega arith) (omega arith)))
    (λ (behind : end ≤ l).
    partner_behind cut_to (start - from) (end - start) p (omega arith)
    ∙ sym (ap kept whole ∙ number_outside from n l (λ exists from_on in_data. let h : l < end =
    cut.ends l (omega arith) in_data exists in omega arith)))
    (cases_lt l end))
    (cases_lt l start))
    (λ (behind : to + count ≤ p).
    ⊎_elim
    (λ (some : start < end). partner_behind cut_to (start - from) (end - start) p (omega arith))
    (λ (none : end ≤ start). let empty : end - start
    ≡ 0 = omega arith in ap (λ m. partner cut_to (start - from) m p) empty
    ∙ partner_none cut_to (start - from) p)
    (cases_lt start end)
    ∙ sym (ap kept (partner_behind to first count p behind)))
    (cases_lt p (to + count)))
    (cases_lt p to)
