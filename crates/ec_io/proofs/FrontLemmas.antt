-- The front of a packet: what its tests leave, and the bytes that it is.
use Rattle.std.proofs.Common.{◌≡◌, ℕ, ◌+◌, ◌<◌, ◌≤◌, ◌^◌, ◌==◌, nat_lt, Bool, true, false, not, List, ◌∷◌}
use Rattle.std.proofs.Common.{◌++◌, length, drop, get_or, refl, sym, ap, ◌∙◌, arith, Option, Some, None}
use Rattle.std.specs.Prelude.{if◌then◌else◌}
use Rattle.std.specs.Int.{w32, to_le_bytes, from_le_bytes}
use Rattle.std.proofs.lemmas.Bool.Decides.{nat_tests}
use Rattle.std.proofs.Math.Seq.{drop-cons}
use Rattle.ec_io.specs.Cycle.{no_cycle, cycle_number, cycle_of, IsSpellable, letters, version, front}
use Rattle.ec_io.specs.Fault.{said_length, front_tests, front_fault}
use Rattle.ec_io.proofs.ByteLemmas.{AreBytes, AreBytes-drop, two_at, four_at, NoneHolds-first_of}
use Rattle.ec_io.proofs.ByteLemmas.{first_of-NoneHolds, not_false}

-- ---- numbers of cycles

-- the number of the cycle of a number is that number
pub cycle_number-cycle_of : (n : ℕ) → cycle_number (cycle_of n) ≡ n
cycle_number-cycle_of n = by_test (n == no_cycle) (tells n)
  where
    tells : (n : ℕ) → (n == no_cycle) ≡ true → n ≡ no_cycle
    tells n e = grind (arith, nat_tests)

    by_test : {n : ℕ} (b : Bool) → (b ≡ true → n ≡ no_cycle)
        → cycle_number (if b then None else Some n) ≡ n
    by_test true is = sym (is refl)
    by_test false is = refl

-- the cycle of the number of a cycle is that cycle, if it can be spelt
pub cycle_of-cycle_number : (cycle : Option ℕ) → IsSpellable cycle → cycle_of (cycle_number cycle) ≡ cycle
cycle_of-cycle_number None spellable = refl
cycle_of-cycle_number (Some n) spellable =
    let other : (n == no_cycle) ≡ false = grind (arith, nat_tests) in rw other refl

-- the cycle of a number of eight bytes can be spelt
pub IsSpellable-cycle_of : (n : ℕ) → n < 2 ^ 64 → IsSpellable (cycle_of n)
IsSpellable-cycle_of n small = by_test (n == no_cycle) (tells n small)
  where
    tells : (n : ℕ) → n < 2 ^ 64 → (n == no_cycle) ≡ false → n < no_cycle
    tells n small e = grind (arith, nat_tests)

    by_test : {n : ℕ} (b : Bool) → (b ≡ false → n < no_cycle) → IsSpellable (if b then None else Some n)
    by_test true is = tt
    by_test false is = is refl

-- the number of a cycle that can be spelt fits eight bytes
pub cycle_number-lt : (cycle : Option ℕ) → IsSpellable cycle → cycle_number cycle < 2 ^ 64
cycle_number-lt None spellable = omega arith
cycle_number-lt (Some n) spellable = omega arith

-- ---- the front

-- The bytes have the front of a packet of this kind, with a head of this size, and are a whole one.
pub record HasFront (size kind : ℕ) (bytes : List ℕ) : Type 0 where
  pub room : size ≤ length bytes
  pub letters_are : from_le_bytes w32 bytes ≡ from_le_bytes w32 letters
  pub version_is : get_or bytes 4 0 ≡ version
  pub kind_is : get_or bytes 5 0 ≡ kind
  pub whole : length bytes ≡ size + said_length bytes

-- they have it where its tests find no fault
pub HasFront-none : (size kind : ℕ) (bytes : List ℕ) → front_fault size kind bytes ≡ None
    → HasFront size kind bytes
unfolding front_fault
HasFront-none size kind bytes none =
    let tests = NoneHolds-first_of (front_tests size kind bytes) none in
    let t0 : nat_lt (length bytes) size ≡ false = tests.0 in
    let t1 : (from_le_bytes w32 bytes == from_le_bytes w32 letters) ≡ true = not_false _ tests.1.0 in
    let t2 : (get_or bytes 4 0 == version) ≡ true = not_false _ tests.1.1.0 in
    let t3 : (get_or bytes 5 0 == kind) ≡ true = not_false _ tests.1.1.1.0 in
    let t4 : (length bytes == size + said_length bytes) ≡ true = not_false _ tests.1.1.1.1.0 in
    record {
      room = grind (arith, nat_tests);
      letters_are = grind (arith, nat_tests);
      version_is = grind (arith, nat_tests);
      kind_is = grind (arith, nat_tests);
      whole = grind (arith, nat_tests);
    }

-- and the other way round
pub front_fault-HasFront : (size kind : ℕ) (bytes : List ℕ) → HasFront size kind bytes
    → front_fault size kind bytes ≡ None
unfolding front_fault
front_fault-HasFront size kind bytes has =
    let room = has.room in
    let t0 : nat_lt (length bytes) size ≡ false = grind (arith, nat_tests) in
    let t1 : not (from_le_bytes w32 bytes == from_le_bytes w32 letters) ≡ false =
    grind (arith, nat_tests, has.letters_are) in
    let t2 : not (get_or bytes 4 0 == version) ≡ false = grind (arith, nat_tests, has.version_is) in
    let t3 : not (get_or bytes 5 0 == kind) ≡ false = grind (arith, nat_tests, has.kind_is) in
    let t4 : not (length bytes == size + said_length bytes) ≡ false = grind (arith, nat_tests, has.whole) in
    first_of-NoneHolds (front_tests size kind bytes) (t0, (t1, (t2, (t3, (t4, tt)))))

-- the bytes of a whole packet begin with its front
pub front-split : (size kind : ℕ) (bytes : List ℕ) → 8 ≤ size → AreBytes bytes → HasFront size kind bytes
    → bytes ≡ front kind (said_length bytes) ++ drop 8 bytes
front-split size kind bytes least all has =
    let room = has.room in
    let at_four : drop 4 bytes ≡ get_or bytes 4 0 ∷ drop 5 bytes = drop-cons bytes 4 0 (omega arith) in
    let at_five : drop 5 bytes ≡ get_or bytes 5 0 ∷ drop 6 bytes = drop-cons bytes 5 0 (omega arith) in
    let at_six = two_at 6 bytes all (omega arith) in
    four_at 0 bytes all (omega arith)
    ∙ ap (λ (n : ℕ). to_le_bytes w32 n ++ drop 4 bytes) has.letters_are
    ∙ ap (λ (xs : List ℕ). letters ++ xs)
    (at_four ∙ ap (λ (n : ℕ). n ∷ drop 5 bytes) has.version_is
    ∙ ap (λ (xs : List ℕ). version ∷ xs)
    (at_five ∙ ap (λ (n : ℕ). n ∷ drop 6 bytes) has.kind_is ∙ ap (λ (xs : List ℕ). kind ∷ xs) at_six))

-- how many bytes of process data a whole packet says that it has
pub said_length-lt : (bytes : List ℕ) → AreBytes bytes → said_length bytes < 2 ^ 16
said_length-lt bytes all = let from6 = AreBytes-drop 6 bytes all in omega (arith, from6 0, from6 1)
