-- Where the byte at an address is kept: no two addresses have one place.
use Rattle.std.proofs.Common.{◌≡◌, ◌⊎◌, ℕ, ◌+◌, ◌-◌, ◌<◌, ◌≤◌, Bool, true, false, cond, leb, ltb, ◌&&◌}
use Rattle.std.proofs.Common.{None, Some, refl, sym, ◌∙◌, arith, inl, inr}
use Rattle.std.proofs.lemmas.Bool.{and_parts}
use Rattle.std.proofs.lemmas.Bool.Decides.{nat_tests}
use Rattle.ecat_told.specs.Registers.{place_of}

-- where a byte is kept
pub data IsKept : ℕ → ℕ → Type 0 where
  station : {a p : ℕ} → 16 ≤ a → a < 18 → a ≡ p + 16 → IsKept a p
  status : {a p : ℕ} → 304 ≤ a → a < 310 → a ≡ p + 302 → IsKept a p
  fmmu : {a p : ℕ} → 1536 ≤ a → a < 1664 → a ≡ p + 1528 → IsKept a p
  manager : {a p : ℕ} → 2048 ≤ a → a < 2112 → a ≡ p + 1912 → IsKept a p

-- of two tests of a number both hold
both_hold : (low high a : ℕ) → (leb low a && ltb a high) ≡ true → (low ≤ a) × (a < high)
both_hold low high a is =
    let parts = and_parts (leb low a) (ltb a high) is in
    let first : leb low a ≡ true = parts.0 in
    let second : ltb a high ≡ true = parts.1 in
    (grind (arith, nat_tests), grind (arith, nat_tests))

-- the first of four that holds
first_of : (a b c d : Bool) (w x y z p : ℕ)
    → cond a (Some w) (cond b (Some x) (cond c (Some y) (cond d (Some z) None))) ≡ Some p
    → ((a ≡ true) × (w ≡ p)) ⊎ (((b ≡ true) × (x ≡ p)) ⊎ (((c ≡ true) × (y ≡ p)) ⊎ ((d ≡ true) × (z ≡ p))))
first_of true b c d w x y z p is = inl (refl, cc)
first_of false true c d w x y z p is = inr (inl (refl, cc))
first_of false false true d w x y z p is = inr (inr (inl (refl, cc)))
first_of false false false true w x y z p is = inr (inr (inr (refl, cc)))
first_of false false false false w x y z p is = absurd (cc)

of_first : (a p : ℕ)
    → (((leb 16 a && ltb a 18) ≡ true) × (a - 16 ≡ p))
    ⊎ ((((leb 304 a && ltb a 310) ≡ true) × (a - 304 + 2 ≡ p))
    ⊎ ((((leb 1536 a && ltb a 1664) ≡ true) × (a - 1536 + 8 ≡ p))
    ⊎ (((leb 2048 a && ltb a 2112) ≡ true) × (a - 2048 + 136 ≡ p))))
    → IsKept a p
of_first a p (inl (test, is)) =
    let h = both_hold 16 18 a test in station h.0 h.1 (omega (arith, h.0, is))
of_first a p (inr (inl (test, is))) =
    let h = both_hold 304 310 a test in status h.0 h.1 (omega (arith, h.0, is))
of_first a p (inr (inr (inl (test, is)))) =
    let h = both_hold 1536 1664 a test in fmmu h.0 h.1 (omega (arith, h.0, is))
of_first a p (inr (inr (inr (test, is)))) =
    let h = both_hold 2048 2112 a test in manager h.0 h.1 (omega (arith, h.0, is))

-- an address with a place is one of the kept registers'
pub kept : (a p : ℕ) → place_of a ≡ Some p → IsKept a p
unfolding place_of
kept a p is = of_first a p (first_of _ _ _ _ _ _ _ _ p is)

-- it is below process memory
pub kept_register : {a p : ℕ} → IsKept a p → a < 4096
kept_register (station low high is) = omega arith
kept_register (status low high is) = omega arith
kept_register (fmmu low high is) = omega arith
kept_register (manager low high is) = omega arith

-- the address of a place
back : ℕ → ℕ
back p = cond (ltb p 2) (p + 16) (cond (ltb p 8) (p + 302) (cond (ltb p 136) (p + 1528) (p + 1912)))

is_back : {a p : ℕ} → IsKept a p → a ≡ back p
unfolding back
is_back {a} {p} (station low high is) =
    let small : ltb p 2 ≡ true = grind (arith, nat_tests) in rw small is
is_back {a} {p} (status low high is) =
    let one : ltb p 2 ≡ false = grind (arith, nat_tests) in
    let small : ltb p 8 ≡ true = grind (arith, nat_tests) in rw (one, small) is
is_back {a} {p} (fmmu low high is) =
    let one : ltb p 2 ≡ false = grind (arith, nat_tests) in
    let two : ltb p 8 ≡ false = grind (arith, nat_tests) in
    let small : ltb p 136 ≡ true = grind (arith, nat_tests) in rw (one, two, small) is
is_back {a} {p} (manager low high is) =
    let one : ltb p 2 ≡ false = grind (arith, nat_tests) in
    let two : ltb p 8 ≡ false = grind (arith, nat_tests) in
    let three : ltb p 136 ≡ false = grind (arith, nat_tests) in rw (one, two, three) is

-- two addresses with one place are one
pub one_place : (a b p : ℕ) → place_of a ≡ Some p → place_of b ≡ Some p → a ≡ b
one_place a b p first second = is_back (kept a p first) ∙ sym (is_back (kept b p second))
