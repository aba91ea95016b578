-- Two slaves that are missing: what lacks of a counter, and whether one of them was seen.
use Rattle.std.proofs.Common.{◌≡◌, ◌≢◌, ⊎_elim, ℕ, zero, suc, ◌+◌, ◌<◌, ◌≤◌, ◌&&◌, ◌||◌, Bool, true, false}
use Rattle.std.proofs.Common.{List, length, get_or, refl, sym, ap, ◌∙◌, arith, eqb, eq-eqb}
use Rattle.std.proofs.lemmas.Bool.{cases_Bool, cases_lt, ne_eqb}
use Rattle.std.proofs.lemmas.Bool.Decides.{eqb_tells}
use Rattle.std.proofs.lemmas.List.{get_or_past}
use Rattle.ecat_judge.specs.declared.share.Share.{Share}
use Rattle.ecat_judge.specs.declared.share.Missing.TheVariants.{Two}
use Rattle.ecat_judge.specs.Share.{has_inputs_of, lacking, no_share, part_at, share_at, sum_below, whole}
use Rattle.ecat_judge.specs.Evidence.{any_below, is_seen_at, was_seen}
use Rattle.ecat_judge.proofs.SumLemmas.{any_at, any_none, any_suc, sum_none, sum_suc}

-- ---- what lacks

module _ (shares : List Share) (a b : ℕ) (apart : a < b) where
  lacks_at : ℕ → ℕ
  lacks_at = part_at (Two a b) shares

  off : (p : ℕ) → p ≢ a → p ≢ b → lacks_at p ≡ 0
  unfolding part_at lacks_at
  off p one other = rw (ne_eqb p a one) (rw (ne_eqb p b other) refl)

  at_one : lacks_at a ≡ whole (share_at shares a)
  unfolding part_at lacks_at
  at_one = rw (eq-eqb a a refl) refl

  at_other : lacks_at b ≡ whole (share_at shares b)
  unfolding part_at lacks_at
  at_other = rw (ne_eqb b a (omega (arith, apart))) (rw (eq-eqb b b refl) refl)

  before : (n : ℕ) → n ≤ a → sum_below lacks_at n ≡ 0
  before zero h = sum_none lacks_at
  before (suc n) h =
      let more = sum_suc lacks_at n in
      let rest = before n (omega (arith, h)) in
      let here = off n (omega (arith, h)) (omega (arith, h, apart)) in
      omega (arith, more, rest, here)

  between : (n : ℕ) → a < n → n ≤ b → sum_below lacks_at n ≡ whole (share_at shares a)
  between zero low h = absurd (omega (arith, low))
  between (suc n) low h =
      let more = sum_suc lacks_at n in
      ⊎_elim
      (λ (past : a < n).
      let rest = between n past (omega (arith, h)) in
      let here = off n (omega (arith, past)) (omega (arith, h)) in
      omega (arith, more, rest, here))
      (λ (last : n ≤ a).
      let e : n ≡ a = omega (arith, low, last) in
      let rest = before n last in
      let here = ap lacks_at e in
      omega (arith, more, rest, here, at_one))
      (cases_lt a n)

  behind : (n : ℕ) → b < n → sum_below lacks_at n ≡ whole (share_at shares a) + whole (share_at shares b)
  behind zero low = absurd (omega (arith, low))
  behind (suc n) low =
      let more = sum_suc lacks_at n in
      ⊎_elim
      (λ (past : b < n).
      let rest = behind n past in
      let here = off n (omega (arith, past, apart)) (omega (arith, past)) in
      omega (arith, more, rest, here))
      (λ (last : n ≤ b).
      let e : n ≡ b = omega (arith, low, last) in
      let rest = between n (omega (arith, e, apart)) last in
      let here = ap lacks_at e in
      omega (arith, more, rest, here, at_other))
      (cases_lt b n)

  nothing_past : (p : ℕ) → length shares ≤ p → whole (share_at shares p) ≡ 0
  nothing_past p h = ap whole (get_or_past shares p no_share h)

  -- of a counter just what both give
  pub two_lacking : lacking (Two a b) shares ≡ whole (share_at shares a) + whole (share_at shares b)
  unfolding lacking lacks_at
  two_lacking =
      ⊎_elim
      (λ (both : b < length shares). behind (length shares) both)
      (λ (short : length shares ≤ b).
      let no_other = nothing_past b short in
      ⊎_elim
      (λ (one : a < length shares).
      let sum = between (length shares) one short in
      omega (arith, sum, no_other))
      (λ (none : length shares ≤ a).
      let sum = before (length shares) none in
      let no_one = nothing_past a none in
      omega (arith, sum, no_other, no_one))
      (cases_lt a (length shares)))
      (cases_lt b (length shares))

-- ---- who was seen

no_seen : (test : ℕ → Bool) (n : ℕ) → ((p : ℕ) → test p ≡ false) → any_below test n ≡ false
no_seen test zero none = any_none test
no_seen test (suc n) none = any_suc test n ∙ ap (λ b. b || test n) (no_seen test n none) ∙ none n

module _ (passed : List Bool) (a b : ℕ) where
  seen : ℕ → Bool
  seen p = get_or passed p false

  inside : (p : ℕ) → seen p ≡ true → p < length passed
  unfolding seen
  inside p is =
      ⊎_elim (λ (low : p < length passed). low)
      (λ (past : length passed ≤ p).
      let both : false ≡ true = sym (get_or_past passed p false past) ∙ is in
      absurd (cc))
      (cases_lt p (length passed))

  seen_one : seen a ≡ true → was_seen (Two a b) passed ≡ true
  unfolding seen is_seen_at
  seen_one is =
      any_at (is_seen_at (Two a b) passed) a (length passed) (inside a is)
      (rw is (rw (eq-eqb a a refl) refl))

  or_true : (x : Bool) → (x || true) ≡ true
  or_true true = refl
  or_true false = refl

  seen_other : seen b ≡ true → was_seen (Two a b) passed ≡ true
  unfolding seen is_seen_at
  seen_other is =
      any_at (is_seen_at (Two a b) passed) b (length passed) (inside b is)
      (rw is (rw (eq-eqb b b refl) (or_true (eqb b a))))

  and_false : (x : Bool) → (x && false) ≡ false
  and_false true = refl
  and_false false = refl

  seen_none : seen a ≡ false → seen b ≡ false → was_seen (Two a b) passed ≡ false
  unfolding seen is_seen_at
  seen_none one other = no_seen (is_seen_at (Two a b) passed) (length passed) (λ p.
      ⊎_elim
      (λ (first : (eqb p a ≡ true) × (p ≡ a)).
      ap (λ x. x && has_inputs_of (Two a b) p) (ap (λ q. get_or passed q false) first.1 ∙ one))
      (λ (away : (eqb p a ≡ false) × (p ≢ a)).
      ⊎_elim
      (λ (second : (eqb p b ≡ true) × (p ≡ b)).
      ap (λ x. x && has_inputs_of (Two a b) p) (ap (λ q. get_or passed q false) second.1 ∙ other))
      (λ (off : (eqb p b ≡ false) × (p ≢ b)).
      rw away.0 (rw off.0 (and_false (get_or passed p false))))
      (eqb_tells p b))
      (eqb_tells p a))

  -- one of them was
  pub two_seen : was_seen (Two a b) passed ≡ (get_or passed a false || get_or passed b false)
  unfolding seen
  two_seen =
      ⊎_elim
      (λ (one : get_or passed a false ≡ true). rw one (seen_one one))
      (λ (no_one : get_or passed a false ≡ false).
      ⊎_elim
      (λ (other : get_or passed b false ≡ true). rw no_one (rw other (seen_other other)))
      (λ (no_other : get_or passed b false ≡ false). rw no_one (rw no_other (seen_none no_one no_other)))
      (cases_Bool (get_or passed b false)))
      (cases_Bool (get_or passed a false))
