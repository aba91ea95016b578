-- The first and the last link that is down.
use Rattle.std.specs.Prelude.{◌≡◌, ℕ, zero, suc, ◌+◌, ◌<◌, ◌≤◌, Bool, true, false, if◌then◌else◌, refl}
use Rattle.std.specs.Prelude.{Option, None, Some, unwrap_or, slice_index_or, replicate}
use Rattle.std.specs.Option.{option_or}
use Rattle.std.proofs.Common.{arith, ap, add-one}
use borrow.Author.Count.{below_more}
use native.Mathlib.Nat.{add-zero, add-suc}
use Rattle.ec_ring.specs.Links.{is_up, first_down, last_down}
use Rattle.ec_ring.specs.Reach.{front, back}
use Rattle.ec_ring.specs.declared.links.Links.{Links}

-- the links below a number are up
abbrev pub AllUp : Links → ℕ → Type 0
AllUp links m = (j : ℕ) → j < m → is_up links j ≡ true

AllUp-suc : (links : Links) (m : ℕ) → AllUp links m → is_up links m ≡ true → AllUp links (suc m)
AllUp-suc links m up here j h = below_more (λ i. is_up links i ≡ true) m up here j (omega (arith, h))

-- a place that is below n + 1, or else n
bound : (o : Option ℕ) (n : ℕ) → ((k : ℕ) → o ≡ Some k → k < n + 1) → unwrap_or o n ≤ n
bound None n below = omega arith
bound (Some k) n below = let h : k < n + 1 = below k refl in omega arith

-- links that are all up, and those past them
pub up-of-replicate : (n k : ℕ) → slice_index_or (replicate n true) k true ≡ true
up-of-replicate zero k = refl
up-of-replicate (suc n) zero = refl
up-of-replicate (suc n) (suc k) = up-of-replicate n k

-- ---- the first one

-- one link more
pub first_down-up : (links : Links) (m : ℕ) → first_down links m ≡ None → is_up links m ≡ true
    → first_down links (m + 1) ≡ None
unfolding first_down
first_down-up links m none up = rw (add-one, none, up) refl

pub first_down-here : (links : Links) (m : ℕ) → first_down links m ≡ None → is_up links m ≡ false
    → first_down links (m + 1) ≡ Some m
unfolding first_down
first_down-here links m none down = rw (add-one, none, down) refl

-- more links
pub first_down-more : (links : Links) (n m k : ℕ) → first_down links n ≡ Some k
    → first_down links (n + m) ≡ Some k
unfolding first_down
first_down-more links n zero k first = rw add-zero first
first_down-more links n (suc m) k first = rw (add-suc, first_down-more links n m k first) refl

-- what the first one says of the links: it is down, and those before it are up
pub record IsFirst (links : Links) (m k : ℕ) : Type 0 where
  pub below : k < m
  pub down : is_up links k ≡ false
  pub up : AllUp links k

first-step : (links : Links) (m : ℕ) (o : Option ℕ) (b : Bool) → is_up links m ≡ b
    → ((k : ℕ) → o ≡ Some k → IsFirst links m k) → (o ≡ None → AllUp links m)
    → (k : ℕ) → option_or o (if b then None else Some m) ≡ Some k → IsFirst links (suc m) k
first-step links m None true here some none k e = cc
first-step links m None false here some none k e =
    let same : m ≡ k = cc in
    record { below = omega arith; down = rw (← same) here; up = rw (← same) (none refl) }
first-step links m (Some i) b here some none k e =
    let same : i ≡ k = cc in
    let first : IsFirst links m k = some k (ap (λ (x : ℕ). Some x) same) in
    record { below = omega (arith, first.below); down = first.down; up = first.up }

none-step : (links : Links) (m : ℕ) (o : Option ℕ) (b : Bool) → is_up links m ≡ b
    → (o ≡ None → AllUp links m) → option_or o (if b then None else Some m) ≡ None → AllUp links (suc m)
none-step links m None true here none e = AllUp-suc links m (none refl) here
none-step links m None false here none e = cc
none-step links m (Some i) b here none e = cc

pub first_down-none : (links : Links) (m : ℕ) → first_down links m ≡ None → AllUp links m
unfolding first_down
first_down-none links zero none = λ j h. absurd (omega (arith, h))
first_down-none links (suc m) none =
    none-step links m (first_down links m) (is_up links m) refl (first_down-none links m) none

pub first_down-some : (links : Links) (m k : ℕ) → first_down links m ≡ Some k → IsFirst links m k
unfolding first_down
first_down-some links zero k first = cc
first_down-some links (suc m) k first =
    first-step links m (first_down links m) (is_up links m) refl (first_down-some links m)
    (first_down-none links m) k first

-- what is found where the first one is looked for
pub record FindsFirst (links : Links) (m : ℕ) (o : Option ℕ) : Type 0 where
  pub none : o ≡ None → AllUp links m
  pub some : (k : ℕ) → o ≡ Some k → IsFirst links m k

pub finds-first : (links : Links) (m : ℕ) → FindsFirst links m (first_down links m)
finds-first links m = record { none = first_down-none links m; some = first_down-some links m }

-- ---- the last one

pub last_down-up : (links : Links) (m : ℕ) → is_up links m ≡ true
    → last_down links (m + 1) ≡ last_down links m
unfolding last_down
last_down-up links m up = rw (add-one, up) refl

pub last_down-here : (links : Links) (m : ℕ) → is_up links m ≡ false → last_down links (m + 1) ≡ Some m
unfolding last_down
last_down-here links m down = rw (add-one, down) refl

-- what it says: it is down, and those behind it are up
pub record IsLast (links : Links) (m k : ℕ) : Type 0 where
  pub below : k < m
  pub down : is_up links k ≡ false
  pub up : (j : ℕ) → k < j → j < m → is_up links j ≡ true

last-step : (links : Links) (m : ℕ) (b : Bool) → is_up links m ≡ b
    → ((k : ℕ) → last_down links m ≡ Some k → IsLast links m k)
    → (k : ℕ) → (if b then last_down links m else Some m) ≡ Some k → IsLast links (suc m) k
last-step links m true here some k e =
    let last : IsLast links m k = some k e in
    record {
      below = omega (arith, last.below);
      down = last.down;
      up = λ j after h.
          below_more (λ i. k < i → is_up links i ≡ true) m (λ i g r. last.up i r g) (λ _. here) j
          (omega (arith, h)) after;
    }
last-step links m false here some k e =
    let same : m ≡ k = cc in
    record { below = omega arith; down = rw (← same) here; up = λ j after h. absurd (omega arith) }

last-none-step : (links : Links) (m : ℕ) (b : Bool) → is_up links m ≡ b
    → (last_down links m ≡ None → AllUp links m)
    → (if b then last_down links m else Some m) ≡ None → AllUp links (suc m)
last-none-step links m true here none e = AllUp-suc links m (none e) here
last-none-step links m false here none e = cc

pub last_down-none : (links : Links) (m : ℕ) → last_down links m ≡ None → AllUp links m
unfolding last_down
last_down-none links zero none = λ j h. absurd (omega (arith, h))
last_down-none links (suc m) none = last-none-step links m (is_up links m) refl (last_down-none links m) none

pub last_down-some : (links : Links) (m k : ℕ) → last_down links m ≡ Some k → IsLast links m k
unfolding last_down
last_down-some links zero k last = cc
last_down-some links (suc m) k last = last-step links m (is_up links m) refl (last_down-some links m) k last

pub record FindsLast (links : Links) (m : ℕ) (o : Option ℕ) : Type 0 where
  pub none : o ≡ None → AllUp links m
  pub some : (k : ℕ) → o ≡ Some k → IsLast links m k

pub finds-last : (links : Links) (m : ℕ) → FindsLast links m (last_down links m)
finds-last links m = record { none = last_down-none links m; some = last_down-some links m }

-- ---- both

-- where some link is down there is a first and a last one
pub front-le : (links : Links) (n : ℕ) → front links n ≤ n
front-le links n = bound (first_down links (n + 1)) n (λ k e. (first_down-some links (n + 1) k e).below)

pub back-le : (links : Links) (n : ℕ) → back links n ≤ n
back-le links n = bound (last_down links (n + 1)) n (λ k e. (last_down-some links (n + 1) k e).below)
