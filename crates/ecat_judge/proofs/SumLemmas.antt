-- Sums and tests over the places below a number.
use Rattle.std.proofs.Common.{◌≡◌, ⊎_elim, ℕ, zero, suc, ◌+◌, ◌<◌, ◌≤◌, ◌||◌, Bool, true, false, refl, sym}
use Rattle.std.proofs.Common.{ap}
use Rattle.std.proofs.Common.{◌∙◌, ◌≢◌, arith, eqb, eq-eqb}
use Rattle.std.proofs.lemmas.Bool.{cases_lt, ne_eqb}
use Rattle.std.proofs.lemmas.Bool.Decides.{eqb_tells}
use Rattle.ecat_judge.specs.Share.{sum_below}
use Rattle.ecat_judge.specs.Evidence.{any_below}

-- ---- sums

pub sum_none : (f : ℕ → ℕ) → sum_below f 0 ≡ 0
unfolding sum_below
sum_none f = refl

pub sum_suc : (f : ℕ → ℕ) (n : ℕ) → sum_below f (suc n) ≡ sum_below f n + f n
unfolding sum_below
sum_suc f n = refl

-- the sum below one more
pub sum_more : (f : ℕ → ℕ) (n : ℕ) → sum_below f (n + 1) ≡ sum_below f n + f n
sum_more f n =
    let e : n + 1 ≡ suc n = omega arith in
    ap (sum_below f) e ∙ sum_suc f n

-- a sum below more is no less
pub sum_grows : (f : ℕ → ℕ) (k n : ℕ) → k ≤ n → sum_below f k ≤ sum_below f n
sum_grows f k zero h =
    let e : k ≡ 0 = omega (arith, h) in
    let same = ap (sum_below f) e in
    omega (arith, same)
sum_grows f k (suc n) h =
    ⊎_elim
    (λ (lt : k < suc n). let below : sum_below f k ≤ sum_below f n = sum_grows f k n (omega (arith, lt)) in
    let more = sum_suc f n in omega (arith, below, more))
    (λ (ge : suc n ≤ k). let e : k ≡ suc n = omega (arith, h, ge) in
    let same = ap (sum_below f) e in omega (arith, same))
    (cases_lt k (suc n))

-- ---- tests

pub any_none : (test : ℕ → Bool) → any_below test 0 ≡ false
unfolding any_below
any_none test = refl

pub any_suc : (test : ℕ → Bool) (n : ℕ) → any_below test (suc n) ≡ (any_below test n || test n)
unfolding any_below
any_suc test n = refl

-- one more place is tested
pub any_more : (test : ℕ → Bool) (n : ℕ) → any_below test (n + 1) ≡ (any_below test n || test n)
any_more test n =
    let e : n + 1 ≡ suc n = omega arith in
    ap (any_below test) e ∙ any_suc test n

or-true : (b : Bool) → (b || true) ≡ true
or-true true = refl
or-true false = refl

-- some place below n passes
pub any_at : (test : ℕ → Bool) (k n : ℕ) → k < n → test k ≡ true → any_below test n ≡ true
any_at test k zero h passes = absurd (omega (arith, h))
any_at test k (suc n) h passes =
    ⊎_elim
    (λ (lt : k < n). any_suc test n ∙ ap (λ b. b || test n) (any_at test k n lt passes))
    (λ (ge : n ≤ k). let e : n ≡ k = omega (arith, h, ge) in
    any_suc test n ∙ ap (λ b. any_below test n || b) (ap test e ∙ passes) ∙ or-true (any_below test n))
    (cases_lt k n)

-- ---- what is left of a number

-- nothing is left of the number where the sum is the number
pub none_left : (sum left number : ℕ) → sum + left ≡ number → eqb left 0 ≡ eqb sum number
none_left sum left number all =
    ⊎_elim
    (λ (none : (eqb left 0 ≡ true) × (left ≡ 0)).
    let same : sum ≡ number = omega (arith, all, none.1) in
    none.0 ∙ sym (eq-eqb sum number same))
    (λ (some : (eqb left 0 ≡ false) × (left ≢ 0)).
    let other : sum ≢ number = omega (arith, all, some.1) in
    some.0 ∙ sym (ne_eqb sum number other))
    (eqb_tells left 0)
