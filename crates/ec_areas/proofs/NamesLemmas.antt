-- Is one of the first n bits mapped: by a run, by one of two maps, by none.
use Rattle.std.proofs.Common.{◌≡◌, ℕ, zero, suc, ◌<◌, ◌≤◌, Bool, true, false, ◌||◌, Option, None, Some, sym}
use Rattle.std.proofs.Common.{◌∙◌, ap, refl, arith, ⊎_elim}
use Rattle.std.specs.Option.{is_some, IsSome}
use Rattle.std.proofs.Math.Bool.{or-true}
use Rattle.std.proofs.lemmas.Bool.{cases_Bool, cases_lt}
use Rattle.ec_regs.specs.Bits.{later}
use Rattle.ec_areas.specs.Logical.{names}

-- places that are equal as far as the bits go are found alike
pub names_same : (f g : ℕ → Option ℕ) (n : ℕ) → ((i : ℕ) → i < n → f i ≡ g i) → names f n ≡ names g n
unfolding names
names_same f g zero same = refl
names_same f g (suc n) same =
    rw (names_same f g n (λ i inside. same i (omega arith)), same n (omega arith)) refl

-- nothing is mapped where no place is one
pub names_nowhere : (f : ℕ → Option ℕ) (n : ℕ) → ((i : ℕ) → i < n → f i ≡ None) → names f n ≡ false
unfolding names
names_nowhere f zero none = refl
names_nowhere f (suc n) none = rw (
  names_nowhere f n (λ i inside. none i (omega arith)),
  none n
      (omega arith),
) refl

-- something is mapped where a bit is
pub names_somewhere : (f : ℕ → Option ℕ) (n i p : ℕ) → i < n → f i ≡ Some p → names f n ≡ true
unfolding names
names_somewhere f zero i p inside is = absurd (omega arith)
names_somewhere f (suc n) i p inside is =
    ⊎_elim
    (λ (before : i < n). rw (names_somewhere f n i p before is) refl)
    (λ (last : n ≤ i). let here : i ≡ n = omega arith in rw (ap f (sym here) ∙ is) (or-true (names f n)))
    (cases_lt i n)

-- so something is mapped where there is a place
pub names_at : (f : ℕ → Option ℕ) (n i : ℕ) → i < n → IsSome (f i) → names f n ≡ true
names_at f n i below some =
    let P : Option ℕ → Type 0 = λ o. f i ≡ o → IsSome o → names f n ≡ true in
    elim (f i) as P [
      | None ↦ λ _ none. absurd (cc)
      | Some p ↦ λ is _. names_somewhere f n i p below is
    ] refl some

-- and then one of the places is found
pub names_some : (f : ℕ → Option ℕ) (n : ℕ) → names f n ≡ true → (i : ℕ) × (i < n) × IsSome (f i)
unfolding names
names_some f zero mapped = absurd (cc)
names_some f (suc n) mapped =
    ⊎_elim
    (λ (before : names f n ≡ true). let found = names_some f n before in
    (found.0, omega (arith, found.1), found.2))
    (λ (not_before : names f n ≡ false). (n, omega arith, rw not_before at mapped))
    (cases_Bool (names f n))

-- where nothing is mapped no place is one
pub names_none : (f : ℕ → Option ℕ) (n i : ℕ) → names f n ≡ false → i < n → f i ≡ None
names_none f n i none below =
    let P : Option ℕ → Type 0 = λ o. f i ≡ o → o ≡ None in
    elim (f i) as P [
      | None ↦ λ _. refl
      | Some p ↦ λ e.
          let yes : names f n ≡ true = names_somewhere f n i p below e in
          absurd (let no : true ≡ false = sym yes ∙ none in cc)
    ] refl

-- a place is found where one of two is
pub is_some-later : (a b : Option ℕ) → is_some (later a b) ≡ (is_some a || is_some b)
is_some-later None None = refl
is_some-later (Some p) None = refl
is_some-later None (Some q) = refl
is_some-later (Some p) (Some q) = refl

-- four truths in another order
or_swap : (a b c d : Bool) → ((a || b) || (c || d)) ≡ ((a || c) || (b || d))
or_swap true b c d = refl
or_swap false true true d = refl
or_swap false true false d = refl
or_swap false false c d = refl

-- one of the first bits is mapped where one of two maps names one
pub names-later : (f g : ℕ → Option ℕ) (n : ℕ) → names (λ i. later (f i) (g i)) n ≡ (names f n || names g n)
unfolding names
names-later f g zero = refl
names-later f g (suc n) =
    rw (names-later f g n, is_some-later (f n) (g n)) (or_swap (names f n) (names g n) (is_some (f n))
    (is_some (g n)))
