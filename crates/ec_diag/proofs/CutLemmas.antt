-- The slaves that no copy reaches, by what is known of the links.
use Rattle.std.proofs.Common.{◌≡◌, ℕ, ◌-◌, ◌<◌, ◌≤◌, inl, inr, true, arith, ltb}
use Rattle.std.proofs.lemmas.Bool.{cases_lt, lt-ltb}
use Rattle.ec_ring.specs.Links.{AreUp}
use Rattle.ec_ring.specs.Reach.{ReachesA, ReachesB}
use Rattle.ec_ring.specs.declared.links.Links.{Links}
use Rattle.ec_diag.specs.CutOff.{IsReached, AreReached, AreBetween, AreReachedBefore, AreReachedFrom, Cuts}
use Rattle.ec_diag.specs.CutOff.{cut_off_of}
use Rattle.ec_diag.specs.Told.{IsFirstDown, IsLastDown}
use Rattle.ec_diag.specs.Located.{IsOne, IsBetween, Tells}
use Rattle.ec_diag.specs.declared.located.Located.{Located}
use Rattle.ec_diag.specs.declared.located.Located.TheVariants.{Unknown, Whole, One, Between, First, Last}
use Rattle.ec_diag.specs.declared.located.Located.TheVariants.{Changed}
use Rattle.ec_diag.proofs.CableLemmas.{not_both}

before_first : (links : Links) (n k : ℕ) → IsFirstDown links n k → AreReachedBefore k links n
before_first links n k first = λ x before j from to. first.before j (omega (arith, before, to))

from_last : (links : Links) (n k : ℕ) → IsLastDown links n k → AreReachedFrom k links n
from_last links n k last = λ x after inside.
    (λ j from to. last.behind j (omega (arith, after, from)) to, (k, after, last.down))

-- a slave behind the first link that is down is not reached by copy A, one before the last not by copy B
not_a : (links : Links) (n p x : ℕ) → IsFirstDown links n p → p ≤ x → ReachesA links x → ⊥
not_a links n p x first past up = not_both links p (up p (omega arith) past) first.down

not_b : (links : Links) (n q x : ℕ) → IsLastDown links n q → x < q → ReachesB links n x → ⊥
not_b links n q x last early up =
    not_both links q (up.0 q (omega (arith, early)) last.inside) last.down

all_reached : (links : Links) (n : ℕ) → AreUp links 0 n → AreReached links n
all_reached links n up = λ x inside. inl (λ j from to. up j from (omega (arith, inside, to)))

one_reached : (links : Links) (n k : ℕ) → IsOne links n k → AreReached links n
one_reached links n k one = λ x inside.
    elim (cases_lt x k) [
      | inl before ↦ inl (before_first links n k one.first x before)
      | inr after ↦ inr (from_last links n k one.last x after inside)
    ]

unreached : (links : Links) (n p q x : ℕ) → IsBetween links n p q → p ≤ x → x < q → IsReached links n x → ⊥
unreached links n p q x is past early reached =
    elim reached [
      | inl a ↦ not_a links n p x is.first past a
      | inr b ↦ not_b links n q x is.last early b
    ]

between_cut : (links : Links) (n p q : ℕ) → IsBetween links n p q → AreBetween p (q - 1) links n
between_cut links n p q is = λ x inside.
    let order : p < q = is.order in (
      λ never.
          elim (cases_lt x p) [
            | inl before ↦ absurd (never (inl (before_first links n p is.first x before)))
            | inr past ↦ elim (cases_lt x q) [
              | inl early ↦ (past, omega arith)
              | inr after ↦ absurd (never (inr (from_last links n q is.last x after inside)))
            ]
          ],
      λ place.
          let past : p ≤ x = place.0 in
          let early : x ≤ q - 1 = place.1 in
          λ reached. unreached links n p q x is past (omega arith) reached,
    )

pub cut_tells : (x : Located) (links : Links) (n : ℕ) → Tells x links n → Cuts (cut_off_of x) links n
cut_tells Unknown links n known = tt
cut_tells Whole links n known = all_reached links n known
cut_tells (One k) links n known = one_reached links n k known
cut_tells (Between p q) links n known =
    let test : ltb p q ≡ true = lt-ltb p q known.order in
    rw test (between_cut links n p q known)
cut_tells (First k) links n known = before_first links n k known
cut_tells (Last k) links n known = from_last links n k known
cut_tells Changed links n known = tt
