-- Two copies of a run of data bytes are joined bit by bit.
use Rattle.std.specs.Prelude.{◌≡◌, ℕ, ◌<◌, ◌≤◌, List, [], ◌∷◌, length, slice_index}
use Rattle.std.specs.Int.{bit_at}
use Rattle.ec_merge.specs.Rule.{joined_bits, IsJoinedBit}

-- bit i of the byte at k
abbrev pub bit : List ℕ → ℕ → ℕ → ℕ
bit bytes k i = bit_at (slice_index bytes k) i

-- as many bytes as were sent, of which each bit differs from the sent one exactly if it does in a or b
pub record IsJoined (sent a b joined : List ℕ) : Type 0 where
  pub count : length joined ≡ length sent
  pub bits : (k i : ℕ) → IsJoinedBit (bit sent k i) (bit a k i) (bit b k i) (bit joined k i)

-- each byte joined
abbrev pub joined_bytes : List ℕ → List ℕ → List ℕ → List ℕ
joined_bytes [] a b = []
joined_bytes (s ∷ ss) [] b = []
joined_bytes (s ∷ ss) (x ∷ xs) [] = []
joined_bytes (s ∷ ss) (x ∷ xs) (y ∷ ys) = joined_bits s x y ∷ joined_bytes ss xs ys

-- the first n bytes of a are joined with those of b, and the others are as they were
pub record IsJoinedUpTo (n : ℕ) (sent a b now : List ℕ) : Type 0 where
  pub count : length now ≡ length a
  pub joined : (k : ℕ) → k < n
      → slice_index now k ≡ joined_bits (slice_index sent k) (slice_index a k) (slice_index b k)
  pub rest : (k : ℕ) → n ≤ k → slice_index now k ≡ slice_index a k
