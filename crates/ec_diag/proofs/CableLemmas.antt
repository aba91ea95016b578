-- A line's links: all up, or a first and a last one that is down; and what is heard of each copy then.
use Rattle.std.proofs.Common.{◌≡◌, ℕ, ◌+◌, ◌-◌, ◌<◌, ◌≤◌, ◌⊎◌, inl, inr}
use Rattle.std.proofs.Common.{true, false, Option, None, Some}
use Rattle.std.proofs.Common.{arith, refl}
use Rattle.std.proofs.lemmas.Bool.{cases_order, cases_lt}
use Rattle.ec_ring.specs.Links.{is_up, AreUp, first_down, last_down}
use Rattle.ec_ring.specs.Reach.{front, back}
use Rattle.ec_ring.specs.declared.links.Links.{Links}
use Rattle.ec_ring.specs.declared.port.Port.TheVariants.{A, B}
use Rattle.ec_ring.proofs.Laws.{no-first_down, no-last_down, is-first_down, is-last_down}
use Rattle.ec_diag.specs.Heard.{heard_a, heard_b}
use Rattle.ec_diag.specs.Told.{IsFirstDown, IsLastDown}

-- a link is not up and down at once
pub not_both : (links : Links) (k : ℕ) → is_up links k ≡ true → is_up links k ≡ false → ⊥
not_both links k up down = cc

-- ---- the first and the last one are one link each

pub one_first : (links : Links) (n p k : ℕ) → IsFirstDown links n p → IsFirstDown links n k → p ≡ k
one_first links n p k first other =
    elim (cases_order p k) [
      | inl same ↦ same
      | inr (inl low) ↦ absurd (not_both links p (other.before p low) first.down)
      | inr (inr high) ↦ absurd (not_both links k (first.before k high) other.down)
    ]

pub one_last : (links : Links) (n q k : ℕ) → IsLastDown links n q → IsLastDown links n k → q ≡ k
one_last links n q k last other =
    elim (cases_order q k) [
      | inl same ↦ same
      | inr (inl low) ↦ absurd (not_both links k (last.behind k low other.inside) other.down)
      | inr (inr high) ↦ absurd (not_both links q (other.behind q high last.inside) last.down)
    ]

-- the last one does not come before the first one
pub first-le-last : (links : Links) (n p q : ℕ) → IsFirstDown links n p → IsLastDown links n q → p ≤ q
first-le-last links n p q first last =
    elim (cases_lt q p) [
      | inl low ↦ absurd (not_both links q (first.before q low) last.down)
      | inr high ↦ high
    ]

-- ---- two kinds of lines

pub record IsWhole (links : Links) (n : ℕ) : Type 0 where
  pub up : AreUp links 0 n
  pub first_is : first_down links (n + 1) ≡ None
  pub last_is : last_down links (n + 1) ≡ None

pub record IsBroken (links : Links) (n p q : ℕ) : Type 0 where
  pub first : IsFirstDown links n p
  pub last : IsLastDown links n q
  pub order : p ≤ q
  pub first_is : first_down links (n + 1) ≡ Some p
  pub last_is : last_down links (n + 1) ≡ Some q

abbrev pub Cable : Links → ℕ → Type 0
Cable links n = IsWhole links n ⊎ ((p : ℕ) × (q : ℕ) × IsBroken links n p q)

pub found_first : (links : Links) (n k : ℕ) → first_down links (n + 1) ≡ Some k → IsFirstDown links n k
found_first links n k found =
    let is = is-first_down links n k found in record { inside = is.0; down = is.1; before = is.2 }

pub found_last : (links : Links) (n k : ℕ) → last_down links (n + 1) ≡ Some k → IsLastDown links n k
found_last links n k found =
    let is = is-last_down links n k found in record { inside = is.0; down = is.1; behind = is.2 }

cable-of : (links : Links) (n : ℕ) (o m : Option ℕ) → first_down links (n + 1) ≡ o
    → last_down links (n + 1) ≡ m → Cable links n
cable-of links n None None first last =
    inl (record { up = no-first_down links n first; first_is = first; last_is = last })
cable-of links n None (Some q) first last =
    let is = found_last links n q last in
    absurd (not_both links q (no-first_down links n first q (omega arith) is.inside) is.down)
cable-of links n (Some p) None first last =
    let is = found_first links n p first in
    absurd (not_both links p (no-last_down links n last p (omega arith) is.inside) is.down)
cable-of links n (Some p) (Some q) first last =
    let one = found_first links n p first in
    let other = found_last links n q last in
    inr (
      p,
      q,
      record {
        first = one;
        last = other;
        order = first-le-last links n p q one other;
        first_is = first;
        last_is = last;
      },
    )

pub cable : (links : Links) (n : ℕ) → Cable links n
cable links n = cable-of links n (first_down links (n + 1)) (last_down links (n + 1)) refl refl

-- a line with a link that is down is broken
pub not_whole : (links : Links) (n k : ℕ) → k ≤ n → is_up links k ≡ false → AreUp links 0 n → ⊥
not_whole links n k inside down up = not_both links k (up k (omega arith) inside) down

-- ---- what is heard

pub whole_a : (links : Links) (n : ℕ) → IsWhole links n
    → heard_a links n ≡ Some (record { at = B; count = n; turned = false })
whole_a links n whole =
    let start : is_up links 0 ≡ true = whole.up 0 (omega arith) (omega arith) in
    rw (start, whole.first_is, whole.last_is) refl

pub whole_b : (links : Links) (n : ℕ) → IsWhole links n
    → heard_b links n ≡ Some (record { at = A; count = 0; turned = false })
whole_b links n whole =
    let start : is_up links n ≡ true = whole.up n (omega arith) (omega arith) in
    let none : n - n ≡ 0 = omega arith in
    rw (start, whole.last_is, none) refl

pub broken_a : (links : Links) (n p q : ℕ) → IsBroken links n p q → 0 < p
    → heard_a links n ≡ Some (record { at = A; count = p; turned = false })
broken_a links n p q broken starts =
    let start : is_up links 0 ≡ true = broken.first.before 0 starts in
    rw (start, broken.first_is, broken.last_is) refl

pub broken_b : (links : Links) (n p q : ℕ) → IsBroken links n p q → q < n
    → heard_b links n ≡ Some (record { at = B; count = n - q; turned = true })
broken_b links n p q broken starts =
    let start : is_up links n ≡ true = broken.last.behind n starts (omega arith) in
    rw (start, broken.last_is) refl

pub lost_a : (links : Links) (n p q : ℕ) → IsBroken links n p q → p ≡ 0 → heard_a links n ≡ None
lost_a links n p q broken here =
    let down : is_up links 0 ≡ false = rw here at broken.first.down in
    rw down refl

pub lost_b : (links : Links) (n p q : ℕ) → IsBroken links n p q → q ≡ n → heard_b links n ≡ None
lost_b links n p q broken here =
    let down : is_up links n ≡ false = rw here at broken.last.down in
    rw down refl

-- ---- the pieces that the copies pass are of the line

front-of : (links : Links) (n : ℕ) → Cable links n → front links n ≤ n
front-of links n (inl whole) = rw whole.first_is (omega arith)
front-of links n (inr (p, q, broken)) = rw broken.first_is broken.first.inside

pub front_inside : (links : Links) (n : ℕ) → front links n ≤ n
front_inside links n = front-of links n (cable links n)

back-of : (links : Links) (n : ℕ) → Cable links n → back links n ≤ n
back-of links n (inl whole) = rw whole.last_is (omega arith)
back-of links n (inr (p, q, broken)) = rw broken.last_is broken.last.inside

pub back_inside : (links : Links) (n : ℕ) → back links n ≤ n
back_inside links n = back-of links n (cable links n)
