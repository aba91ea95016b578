-- Bytes of a memory are written from the data of a physical write, one after the other.
use Rattle.std.proofs.Common.{◌≡◌, ◌≢◌, ℕ, ◌+◌, ◌-◌, ◌*◌, ◌/◌, ◌<◌, ◌≤◌, Bool, true, false, ◌&&◌, leb, ltb}
use Rattle.std.proofs.Common.{cond, List, length, get_or, set, Option, None, Some, ◌∙◌, ap, refl, arith}
use Rattle.std.proofs.Common.{⊎_elim, get_or-set_same, get_or-set_other}
use Rattle.std.specs.Int.{bit_at}
use Rattle.std.proofs.lemmas.Bool.{and_parts, cases_eq, cases_Bool}
use Rattle.std.proofs.lemmas.Bool.Decides.{nat_tests}
use Rattle.std.proofs.lemmas.List.{length-set}
use Rattle.ec_regs.specs.Bits.{AreBytes, with_bits}
use Rattle.ec_regs.specs.AddressRange.{within}
use Rattle.ec_regs.proofs.Laws.{with_bits_by_bytes, taken_byte, kept_byte}

-- the byte at an address once the data were written from `from` on to the bytes that pass a test
abbrev pub written_byte : (ℕ → Bool) → List ℕ → List ℕ → ℕ → ℕ → ℕ
written_byte test arrived payload from address =
    cond (test address) (get_or payload (address - from) 0) (get_or arrived address 0)

-- a byte that was written
written_yes : (test : ℕ → Bool) (arrived payload : List ℕ) (from a : ℕ) → test a ≡ true
    → written_byte test arrived payload from a ≡ get_or payload (a - from) 0
written_yes test arrived payload from a passing = rw passing refl

-- and one that was not
written_no : (test : ℕ → Bool) (arrived payload : List ℕ) (from a : ℕ) → test a ≡ false
    → written_byte test arrived payload from a ≡ get_or arrived a 0
written_no test arrived payload from a failing = rw failing refl

-- ---- places

-- the data bit that each bit of the memory takes
abbrev pub places_from : (ℕ → Bool) → ℕ → ℕ → Option ℕ
places_from test from p = cond (test (p / 8)) (Some (p - 8 * from)) None

-- a memory in which those bytes were written has those bits
pub written_run : (test : ℕ → Bool) (zs xs ys : List ℕ) (from : ℕ) → length zs ≡ length xs → AreBytes xs
    → AreBytes ys
    → ((a : ℕ) → test a ≡ true → from ≤ a) → ((a : ℕ) → get_or zs a 0 ≡ written_byte test xs ys from a)
    → zs ≡ with_bits xs ys (places_from test from)
written_run test zs xs ys from e x_bytes y_bytes behind written =
    with_bits_by_bytes zs xs ys (places_from test from) e
    (λ a.
    ⊎_elim
    (λ (passing : test a ≡ true). rw (written a, written_yes test xs ys from a passing) (y_bytes (a - from)))
    (λ (failing : test a ≡ false). rw (written a, written_no test xs ys from a failing) (x_bytes a))
    (cases_Bool (test a)))
    (λ a b inside below.
    let byte_is : (8 * a + b) / 8 ≡ a = omega arith in
    ⊎_elim
    (λ (passing : test a ≡ true).
    let place : places_from test from (8 * a + b)
    ≡ Some (8 * a + b - 8 * from) = rw (byte_is, passing) refl in
    let from_below : from ≤ a = behind a passing in
    ap (λ x. bit_at x b) (written a ∙ written_yes test xs ys from a passing)
    ∙ taken_byte xs ys (places_from test from) (8 * a + b) (8 * a + b - 8 * from) (a - from) b place
    (omega arith) below)
    (λ (failing : test a ≡ false).
    let place : places_from test from (8 * a + b) ≡ None = rw (byte_is, failing) refl in
    ap (λ x. bit_at x b) (written a ∙ written_no test xs ys from a failing)
    ∙ kept_byte xs ys (places_from test from) a b place below)
    (cases_Bool (test a)))

-- ---- one byte after the other

-- is the byte at an address among the n that begin at `from`, and does it pass a test
abbrev pub among : (ℕ → Bool) → ℕ → ℕ → ℕ → Bool
among test from n a = within from n a && test a

-- no byte was written
pub written_none : (test : ℕ → Bool) (arrived payload : List ℕ) (from a : ℕ) → get_or arrived a 0
    ≡ written_byte (among test from 0) arrived payload from a
written_none test arrived payload from a =
    let failing : within from 0 a ≡ false = grind (arith, nat_tests) in
    rw failing refl

-- one byte more
pub written_more : (test : ℕ → Bool) (arrived payload now after : List ℕ) (from n byte : ℕ)
    → ((a : ℕ) → get_or now a 0 ≡ written_byte (among test from n) arrived payload from a)
    → from + n < length now → byte ≡ get_or payload n 0
    → after ≡ cond (test (from + n)) (set now (from + n) byte) now
    → (a : ℕ) → get_or after a 0 ≡ written_byte (among test from (n + 1)) arrived payload from a
written_more test arrived payload now after from n byte so_far inside byte_is after_is a =
    ⊎_elim
    (λ (here : a ≡ from + n).
    let behind : within from n a ≡ false = grind (arith, nat_tests) in
    let reached : within from (n + 1) a ≡ true = grind (arith, nat_tests) in
    let place : a - from ≡ n = omega arith in
    ⊎_elim
    (λ (passing : test (from + n) ≡ true).
    let passes : test a ≡ true = ap test here ∙ passing in
    let put : after ≡ set now (from + n) byte = after_is ∙ rw passing refl in
    ap (λ (m : List ℕ). get_or m a 0) put
    ∙ ap (λ i. get_or (set now (from + n) byte) i 0) here
    ∙ get_or-set_same now (from + n) byte 0 inside
    ∙ byte_is
    ∙ rw (reached, passes, place) refl)
    (λ (failing : test (from + n) ≡ false).
    let fails : test a ≡ false = ap test here ∙ failing in
    let put : after ≡ now = after_is ∙ rw failing refl in
    ap (λ (m : List ℕ). get_or m a 0) put ∙ so_far a ∙ rw (behind, reached, fails) refl)
    (cases_Bool (test (from + n))))
    (λ (other : a ≢ from + n).
    let same : within from (n + 1) a ≡ within from n a = grind (arith, nat_tests) in
    let kept : get_or after a 0 ≡ get_or now a 0 =
    ⊎_elim
    (λ (passing : test (from + n) ≡ true).
    let put : after ≡ set now (from + n) byte = after_is ∙ rw passing refl in
    ap (λ (m : List ℕ). get_or m a 0) put ∙ get_or-set_other now (from + n) a byte 0 other)
    (λ (failing : test (from + n) ≡ false).
    let put : after ≡ now = after_is ∙ rw failing refl in
    ap (λ (m : List ℕ). get_or m a 0) put)
    (cases_Bool (test (from + n))) in
    kept ∙ so_far a ∙ rw same refl)
    (cases_eq a (from + n))

-- the memory keeps its length
pub written_length : (test : Bool) (now after : List ℕ) (at byte : ℕ) → after
    ≡ cond test (set now at byte) now → length after ≡ length now
written_length true now after at byte after_is = ap length after_is ∙ length-set now at byte
written_length false now after at byte after_is = ap length after_is

-- such a byte does not lie before `from`
pub among_behind : (test : ℕ → Bool) (from n a : ℕ) → among test from n a ≡ true → from ≤ a
among_behind test from n a passes =
    let inside : within from n a ≡ true = (and_parts (within from n a) (test a) passes).0 in
    let behind : leb from a ≡ true = (and_parts (leb from a) (ltb a (from + n)) inside).0 in
    grind (arith, nat_tests)

-- the next byte is as it was
pub written_waiting : (test : ℕ → Bool) (arrived payload : List ℕ) (from n : ℕ)
    → written_byte (among test from n) arrived payload from (from + n) ≡ get_or arrived (from + n) 0
written_waiting test arrived payload from n =
    let behind : within from n (from + n) ≡ false = grind (arith, nat_tests) in
    rw behind refl
