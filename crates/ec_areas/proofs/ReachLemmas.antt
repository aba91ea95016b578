-- A run of which only those bytes are reached that pass a test: in parts, as a whole, and not at all.
use Rattle.std.proofs.Common.{◌≡◌, ℕ, ◌+◌, ◌-◌, ◌/◌, ◌%◌, ◌<◌, ◌≤◌, Bool, true, false, cond, List, Option}
use Rattle.std.proofs.Common.{None, Some, sym, ◌∙◌, ap, refl, arith, ⊎_elim}
use Rattle.std.proofs.lemmas.Bool.{cases_lt}
use Rattle.ec_regs.specs.Bits.{AreBytes, with_bits, later}
use Rattle.ec_regs.specs.Pairs.{partner}
use Rattle.ec_regs.proofs.Laws.{later_none, with_bits_none, with_bits_same_places, with_bits-with_bits}
use Rattle.ec_regs.proofs.Laws.{partner_none, partner_inside, partner_before, partner_behind}
use Rattle.ec_regs.proofs.Laws.{partner_is, partner_first, partner_second, partner_split}
use Rattle.ec_areas.specs.Logical.{place_if, names}
use Rattle.ec_areas.proofs.NamesLemmas.{names_same, names_somewhere, names_nowhere}

-- ---- from data bits to physical bits

-- the physical bit of data bit i, if its byte passes the test
abbrev pub kept : (ℕ → Bool) → ℕ → ℕ → ℕ → ℕ → Option ℕ
kept test at to n i = place_if (λ p. test (p / 8)) (partner at to n i)

-- nothing is kept of a bit outside the run
kept_outside : (test : ℕ → Bool) (at to n i : ℕ) → partner at to n i ≡ None → kept test at to n i ≡ None
kept_outside test at to n i none = ap (place_if (λ p. test (p / 8))) none

-- a run goes in two parts
pub kept_split : (test : ℕ → Bool) (at to n m i : ℕ)
    → later (kept test at to n i) (kept test (at + n) (to + n) m i) ≡ kept test at to (n + m) i
kept_split test at to n m i =
    ⊎_elim
    (λ (first : i < at + n).
    ap (later (kept test at to n i)) (kept_outside test (at + n) (to + n) m i (partner_before (at + n)
    (to + n) m i first))
    ∙ ap (place_if (λ p. test (p / 8))) (sym (partner_first at to n m i first)))
    (λ (second : at + n ≤ i).
    ap (λ o. later o (kept test (at + n) (to + n) m i)) (kept_outside test at to n i
    (partner_behind at to n i second))
    ∙ later_none (kept test (at + n) (to + n) m i)
    ∙ ap (place_if (λ p. test (p / 8))) (sym (partner_second at to n m i second)))
    (cases_lt i (at + n))

-- the byte of each bit of a run passes the test, or none does
abbrev pub AllPass : (ℕ → Bool) → Bool → ℕ → ℕ → Type 0
AllPass test answer to n = (p : ℕ) → to ≤ p → p < to + n → test (p / 8) ≡ answer

-- all of a run is kept where all bytes pass
pub kept_all : (test : ℕ → Bool) (at to n i : ℕ) → AllPass test true to n → kept test at to n i
    ≡ partner at to n i
kept_all test at to n i pass =
    let P : Option ℕ → Type 0 = λ o. partner at to n i ≡ o → place_if (λ p. test (p / 8)) o ≡ o in
    elim (partner at to n i) as P [
      | None ↦ λ _. refl
      | Some p ↦ λ e. let found = partner_is at to n i p e in rw (pass p (omega (arith, found.3)) (omega
          (arith, found.1, found.3))) refl
    ] refl

-- and nothing where none does
pub kept_none : (test : ℕ → Bool) (at to n i : ℕ) → AllPass test false to n → kept test at to n i ≡ None
kept_none test at to n i pass =
    let P : Option ℕ → Type 0 = λ o. partner at to n i ≡ o → place_if (λ p. test (p / 8)) o ≡ None in
    elim (partner at to n i) as P [
      | None ↦ λ _. refl
      | Some p ↦ λ e. let found = partner_is at to n i p e in rw (pass p (omega (arith, found.3)) (omega
          (arith, found.1, found.3))) refl
    ] refl

-- the first bit of a run whose bytes pass
kept_first : (test : ℕ → Bool) (at to n : ℕ) → 0 < n → AllPass test true to n → kept test at to n at ≡ Some to
kept_first test at to n some pass =
    kept_all test at to n at pass ∙ partner_inside at to n at 0 (omega arith) some
    ∙ ap Some (let e : to + 0 ≡ to = omega arith in e)

-- bits of one byte pass alike
pub AllPass-byte : (test : ℕ → Bool) (answer : Bool) (to n : ℕ) → n ≤ 8 - to % 8 → test (to / 8)
    ≡ answer → AllPass test answer to n
AllPass-byte test answer to n one_byte is = λ p starts ends.
    let same : p / 8 ≡ to / 8 = omega arith in ap test same ∙ is

-- ---- a whole run

-- a run whose bytes all pass has been copied
pub read_whole : (test : ℕ → Bool) (xs ys zs : List ℕ) (at to n : ℕ) → AllPass test true to n → zs
    ≡ with_bits xs ys (partner at to n)
    → zs ≡ with_bits xs ys (kept test at to n)
read_whole test xs ys zs at to n pass copied =
    copied ∙ with_bits_same_places xs ys (partner at to n) (kept test at to n) (λ i _. sym
    (kept_all test at to n i pass))

-- and is found
pub names_whole : (test : ℕ → Bool) (at to n bits : ℕ) → 0 < n → at + n ≤ bits → AllPass test true to n
    → names (kept test at to n) bits ≡ true
names_whole test at to n bits some within pass =
    names_somewhere (kept test at to n) bits at to (omega arith) (kept_first test at to n some pass)

-- ---- reads: one part more

-- a part whose bytes pass has been copied
pub read_part : (test : ℕ → Bool) (xs ys zs us : List ℕ) (at to n m : ℕ) → zs
    ≡ with_bits xs ys (kept test at to n)
    → AllPass test true (to + n) m → us ≡ with_bits zs ys (partner (at + n) (to + n) m) → us
    ≡ with_bits xs ys (kept test at to (n + m))
read_part test xs ys zs us at to n m so_far pass copied =
    copied
    ∙ rw so_far
    (with_bits-with_bits xs ys (kept test at to n) (partner (at + n) (to + n) m)
    ∙ with_bits_same_places xs ys (λ i. later (kept test at to n i) (partner (at + n) (to + n) m i))
    (kept test at to (n + m))
    (λ i _. ap (later (kept test at to n i)) (sym (kept_all test (at + n) (to + n) m i pass))
    ∙ kept_split test at to n m i))

-- a part whose bytes do not pass is left out
pub skip_part : (test : ℕ → Bool) (xs ys zs : List ℕ) (at to n m : ℕ) → zs
    ≡ with_bits xs ys (kept test at to n)
    → AllPass test false (to + n) m → zs ≡ with_bits xs ys (kept test at to (n + m))
skip_part test xs ys zs at to n m so_far pass =
    so_far
    ∙ with_bits_same_places xs ys (kept test at to n) (kept test at to (n + m))
    (λ i _. ap (later (kept test at to n i)) (sym (kept_none test (at + n) (to + n) m i pass))
    ∙ kept_split test at to n m i)

-- the first bit of a part whose bytes pass is found
pub names_part : (test : ℕ → Bool) (at to n m bits : ℕ) → 0 < m → at + n + m ≤ bits
    → AllPass test true (to + n) m
    → names (kept test at to (n + m)) bits ≡ true
names_part test at to n m bits some within pass =
    let here : kept test at to (n + m) (at + n) ≡ Some (to + n) =
    sym (kept_split test at to n m (at + n)) ∙ ap (later (kept test at to n (at + n))) (kept_first test
    (at + n) (to + n) m some pass)
    in names_somewhere (kept test at to (n + m)) bits (at + n) (to + n) (omega arith) here

-- and one whose bytes do not adds nothing
pub names_skipped : (test : ℕ → Bool) (at to n m bits : ℕ) → AllPass test false (to + n) m
    → names (kept test at to (n + m)) bits ≡ names (kept test at to n) bits
names_skipped test at to n m bits pass =
    names_same (kept test at to (n + m)) (kept test at to n) bits
    (λ i _. sym (kept_split test at to n m i) ∙ ap (later (kept test at to n i)) (kept_none test (at + n)
    (to + n) m i pass))

-- no part yet
pub read_no_part : (test : ℕ → Bool) (xs ys : List ℕ) (at to : ℕ) → AreBytes xs → xs
    ≡ with_bits xs ys (kept test at to 0)
read_no_part test xs ys at to are =
    sym (with_bits_none xs ys (kept test at to 0) are (λ i _. kept_outside test at to 0 i
    (partner_none at to i)))

pub names_no_part : (test : ℕ → Bool) (at to bits : ℕ) → names (kept test at to 0) bits ≡ false
names_no_part test at to bits = names_nowhere (kept test at to 0) bits
    (λ i _. kept_outside test at to 0 i (partner_none at to i))

-- ---- from physical bits to data bits

-- the data bit of physical bit p, if the byte of p passes the test
abbrev pub laid : (ℕ → Bool) → ℕ → ℕ → ℕ → ℕ → Option ℕ
laid test to at n p = cond (test (p / 8)) (partner to at n p) None

-- nothing is laid at a bit outside the run
laid_outside : (test : ℕ → Bool) (to at n p : ℕ) → partner to at n p ≡ None → laid test to at n p ≡ None
laid_outside test to at n p none =
    let P : Bool → Type 0 = λ b. cond b (partner to at n p) None
    ≡ None in elim (test (p / 8)) as P [ true ↦ none | false ↦ refl ]

-- a run goes in two parts
laid_split : (test : ℕ → Bool) (to at n m p : ℕ)
    → later (laid test to at n p) (laid test (to + n) (at + n) m p) ≡ laid test to at (n + m) p
laid_split test to at n m p =
    let P : Bool → Type 0 = λ b. later (cond b (partner to at n p) None) (cond b (partner (to + n)
    (at + n) m p) None) ≡ cond b (partner to at (n + m) p) None in
    elim (test (p / 8)) as P [ true ↦ partner_split to at n m p | false ↦ refl ]

-- all of a run is laid where all bytes pass
laid_all : (test : ℕ → Bool) (to at n p : ℕ) → AllPass test true to n → laid test to at n p
    ≡ partner to at n p
laid_all test to at n p pass =
    let P : Option ℕ → Type 0 = λ o. partner to at n p ≡ o → cond (test (p / 8)) o None ≡ o in
    elim (partner to at n p) as P [
      | None ↦ λ none. sym (ap (λ o. cond (test (p / 8)) o None) none) ∙ laid_outside test to at n p none
      | Some i ↦ λ e. let found = partner_is to at n p i e in rw (pass p (omega (arith, found.2)) (omega
          (arith, found.1, found.2))) refl
    ] refl

-- and nothing where none does
laid_none : (test : ℕ → Bool) (to at n p : ℕ) → AllPass test false to n → laid test to at n p ≡ None
laid_none test to at n p pass =
    let P : Option ℕ → Type 0 = λ o. partner to at n p ≡ o → cond (test (p / 8)) o None ≡ None in
    elim (partner to at n p) as P [
      | None ↦ λ none. sym (ap (λ o. cond (test (p / 8)) o None) none) ∙ laid_outside test to at n p none
      | Some i ↦ λ e. let found = partner_is to at n p i e in rw (pass p (omega (arith, found.2)) (omega
          (arith, found.1, found.2))) refl
    ] refl

-- no part yet
pub write_no_part : (test : ℕ → Bool) (xs ys : List ℕ) (to at : ℕ) → AreBytes xs → xs
    ≡ with_bits xs ys (laid test to at 0)
write_no_part test xs ys to at are =
    sym (with_bits_none xs ys (laid test to at 0) are (λ p _. laid_outside test to at 0 p
    (partner_none to at p)))

-- a part whose bytes pass has been written
pub write_part : (test : ℕ → Bool) (xs ys zs us : List ℕ) (to at n m : ℕ) → zs
    ≡ with_bits xs ys (laid test to at n)
    → AllPass test true (to + n) m → us ≡ with_bits zs ys (partner (to + n) (at + n) m) → us
    ≡ with_bits xs ys (laid test to at (n + m))
write_part test xs ys zs us to at n m so_far pass written =
    written
    ∙ rw so_far
    (with_bits-with_bits xs ys (laid test to at n) (partner (to + n) (at + n) m)
    ∙ with_bits_same_places xs ys (λ p. later (laid test to at n p) (partner (to + n) (at + n) m p))
    (laid test to at (n + m))
    (λ p _. ap (later (laid test to at n p)) (sym (laid_all test (to + n) (at + n) m p pass))
    ∙ laid_split test to at n m p))

-- a part whose bytes do not pass is left out
pub leave_part : (test : ℕ → Bool) (xs ys zs : List ℕ) (to at n m : ℕ) → zs
    ≡ with_bits xs ys (laid test to at n)
    → AllPass test false (to + n) m → zs ≡ with_bits xs ys (laid test to at (n + m))
leave_part test xs ys zs to at n m so_far pass =
    so_far
    ∙ with_bits_same_places xs ys (laid test to at n) (laid test to at (n + m))
    (λ p _. ap (later (laid test to at n p)) (sym (laid_none test (to + n) (at + n) m p pass))
    ∙ laid_split test to at n m p)

-- a run whose bytes all pass has been written
pub write_whole : (test : ℕ → Bool) (xs ys zs : List ℕ) (to at n : ℕ) → AllPass test true to n → zs
    ≡ with_bits xs ys (partner to at n)
    → zs ≡ with_bits xs ys (laid test to at n)
write_whole test xs ys zs to at n pass written =
    written ∙ with_bits_same_places xs ys (partner to at n) (laid test to at n) (λ p _. sym
    (laid_all test to at n p pass))
