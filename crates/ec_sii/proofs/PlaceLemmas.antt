-- Numbers that were written, and what stands behind a front.
use Rattle.std.proofs.Common.{◌≡◌, ℕ, ◌+◌, ◌*◌, ◌<◌, ◌^◌, List, ◌++◌, length, get_or, arith}
use Rattle.std.specs.Int.{w16, to_le_bytes}
use Rattle.std.proofs.lemmas.List.{get_or-append-add}
use Rattle.ec_sii.specs.Reading.{word_at}

-- a number that was written, read at the front of what follows
pub word_made : (n : ℕ) (xs : List ℕ) → n < 2 ^ 16 → word_at (to_le_bytes w16 n ++ xs) 0 ≡ n
word_made n xs small = omega arith

-- what stands behind a front is read as what stands at its own places
pub byte_behind : (front xs : List ℕ) (at k : ℕ) → at ≡ length front + k
    → get_or (front ++ xs) at 0 ≡ get_or xs k 0
byte_behind front xs at k is = rw is (get_or-append-add front xs k 0)

pub word_behind : (front xs : List ℕ) (at k : ℕ) → at ≡ length front + k
    → word_at (front ++ xs) at ≡ word_at xs k
word_behind front xs at k is =
    let low : get_or (front ++ xs) at 0 ≡ get_or xs k 0 = byte_behind front xs at k is in
    let high : get_or (front ++ xs) (at + 1) 0 ≡ get_or xs (k + 1) 0 =
    byte_behind front xs (at + 1) (k + 1) (omega arith) in
    λ i. low i + 256 * high i
