-- Whole bytes are merged from a run of another list.
use Rattle.std.proofs.Common.{◌≡◌, ◌≢◌, ℕ, ◌+◌, ◌*◌, ◌<◌, true, false, eqb, if◌then◌else◌}
use Rattle.std.proofs.Common.{List, length, get_or, Option, None}
use Rattle.std.proofs.Common.{Some, ◌∙◌, ap, refl, arith, ⊎_elim}
use Rattle.std.specs.Prelude.{bit_or, max}
use Rattle.std.specs.Int.{bit_at}
use Rattle.std.proofs.lemmas.Bool.{cases_eq}
use Rattle.std.proofs.lemmas.Bool.Decides.{nat_tests}
use Rattle.std.proofs.lemmas.Nat.Bits.{bit_at_or, bit_at-lt}
use Rattle.ec_regs.specs.Bits.{AreBytes, bit, placed_bit, with_bits}
use Rattle.ec_regs.proofs.Laws.{bit_of_byte, placed_bit_taken, placed_bit_kept, with_bits_by_bytes}

-- the bits of the memory that are 1, from an address on
abbrev pub ones_from : List ℕ → ℕ → ℕ → Option ℕ
ones_from ys from i = if eqb (bit ys (8 * from + i)) 1 then Some (8 * from + i) else None

-- a bit that is 1 is taken
ones_from_one : (ys : List ℕ) (from i : ℕ) → bit ys (8 * from + i) ≡ 1 → ones_from ys from i
    ≡ Some (8 * from + i)
ones_from_one ys from i one = let here : eqb (bit ys (8 * from + i)) 1
    ≡ true = grind (arith, nat_tests) in rw here refl

-- one that is not is left out
ones_from_zero : (ys : List ℕ) (from i : ℕ) → bit ys (8 * from + i) ≢ 1 → ones_from ys from i ≡ None
ones_from_zero ys from i other = let here : eqb (bit ys (8 * from + i)) 1
    ≡ false = grind (arith, nat_tests) in rw here refl

-- the or of two bits is the second one where that is 1, else the first one
merged_bit : (xs ys : List ℕ) (from k b : ℕ) → b < 8
    → max (bit_at (get_or xs k 0) b) (bit_at (get_or ys (from + k) 0) b)
    ≡ placed_bit xs ys (ones_from ys from) (8 * k + b)
merged_bit xs ys from k b below =
    let source : bit ys (8 * from + (8 * k + b)) ≡ bit_at (get_or ys (from + k) 0) b =
    ap (bit ys) (let e : 8 * from + (8 * k + b) ≡ 8 * (from + k) + b = omega arith in e)
    ∙ bit_of_byte ys (from + k) b below in
    let own : bit xs (8 * k + b) ≡ bit_at (get_or xs k 0) b = bit_of_byte xs k b below in
    ⊎_elim
    (λ (one : bit ys (8 * from + (8 * k + b)) ≡ 1).
    let taken : placed_bit xs ys (ones_from ys from) (8 * k + b) ≡ bit ys (8 * from + (8 * k + b)) =
    placed_bit_taken xs ys (ones_from ys from) (8 * k + b) (8 * from + (8 * k + b))
    (ones_from_one ys from (8 * k + b) one) in
    omega (arith, bit_at-lt (get_or xs k 0) b))
    (λ (other : bit ys (8 * from + (8 * k + b)) ≢ 1).
    let kept : placed_bit xs ys (ones_from ys from) (8 * k + b) ≡ bit xs (8 * k + b) =
    placed_bit_kept xs ys (ones_from ys from) (8 * k + b) (ones_from_zero ys from (8 * k + b) other) in
    omega (arith, bit_at-lt (get_or ys (from + k) 0) b))
    (cases_eq (bit ys (8 * from + (8 * k + b))) 1)

-- a list whose bytes are or-ed with those of a run of another has the bits of that run that are 1
pub merged_run : (zs xs ys : List ℕ) (from : ℕ) → length zs ≡ length xs → AreBytes zs
    → ((k : ℕ) → k < length xs → get_or zs k 0 ≡ bit_or (get_or xs k 0) (get_or ys (from + k) 0)) → zs
    ≡ with_bits xs ys (ones_from ys from)
merged_run zs xs ys from e are bytes_are =
    with_bits_by_bytes zs xs ys (ones_from ys from) e are
    (λ k b inside below.
    ap (λ x. bit_at x b) (bytes_are k inside)
    ∙ bit_at_or (get_or xs k 0) (get_or ys (from + k) 0) b
    ∙ merged_bit xs ys from k b below)
