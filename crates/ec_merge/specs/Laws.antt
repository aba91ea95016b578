-- The laws of the join of one value.
use Rattle.std.proofs.Common.{◌≡◌, ℕ, ◌+◌, ◌%◌, ◌<◌, Bool, true, false, max, refl, bit_xor, bit_or, arith}
use Rattle.std.specs.Int.{bit_at}
use Rattle.std.proofs.lemmas.Nat.Bits.{bit_at-lt, bit_at_or, bit_at_xor, same_from_bits}
use Rattle.ec_merge.specs.Rule.{distance, joined_count, joined_bits, joined_flag}

-- ---- counters

pub joined_count_symmetric : (s a b : ℕ) → joined_count s a b ≡ joined_count s b a
joined_count_symmetric s a b = omega arith

pub joined_count_grouped : (s a b c : ℕ)
    → joined_count s (joined_count s a b) c ≡ joined_count s a (joined_count s b c)
joined_count_grouped s a b c = omega arith

-- a copy that is as it was sent changes nothing
pub joined_count_unit : (s a : ℕ) → s < 65536 → a < 65536 → joined_count s a s ≡ a
joined_count_unit s a hs ha = omega arith

-- the joined counter has moved by both distances
pub distance_joined : (s a b : ℕ) → s < 65536
    → distance s (joined_count s a b) ≡ (distance s a + distance s b) % 65536
distance_joined s a b hs = omega arith

-- no two counters have moved by the same distance
pub same_from_distance : (s x y : ℕ) → s < 65536 → x < 65536 → y < 65536 → distance s x ≡ distance s y → x ≡ y
same_from_distance s x y hs hx hy e = omega arith

-- ---- bits

-- a bit of joined numbers by the bits of the three
abbrev pub joined_at : ℕ → ℕ → ℕ → ℕ
joined_at s a b = (s + max ((a + s) % 2) ((b + s) % 2)) % 2

pub bit_at_joined : (s a b i : ℕ)
    → bit_at (joined_bits s a b) i ≡ joined_at (bit_at s i) (bit_at a i) (bit_at b i)
bit_at_joined s a b i =
    rw (
      bit_at_xor s (bit_or (bit_xor a s) (bit_xor b s)) i,
      bit_at_or (bit_xor a s) (bit_xor b s) i,
      bit_at_xor a s i,
      bit_at_xor b s i,
    ) refl

pub joined_bits_symmetric : (s a b : ℕ) → joined_bits s a b ≡ joined_bits s b a
joined_bits_symmetric s a b =
    same_from_bits _ _ (λ i. rw (bit_at_joined s a b i, bit_at_joined s b a i) (omega arith))

at_grouped : (s a b c : ℕ) → s < 2 → a < 2 → b < 2 → c < 2
    → joined_at s (joined_at s a b) c ≡ joined_at s a (joined_at s b c)
at_grouped s a b c hs ha hb hc = omega arith

pub joined_bits_grouped : (s a b c : ℕ)
    → joined_bits s (joined_bits s a b) c ≡ joined_bits s a (joined_bits s b c)
joined_bits_grouped s a b c =
    same_from_bits _ _ (λ i.
    rw (
      bit_at_joined s (joined_bits s a b) c i,
      bit_at_joined s a b i,
      bit_at_joined s a (joined_bits s b c) i,
      bit_at_joined s b c i,
    )
    (at_grouped _ _ _ _ (bit_at-lt s i) (bit_at-lt a i) (bit_at-lt b i) (bit_at-lt c i)))

at_unit : (s a : ℕ) → s < 2 → a < 2 → joined_at s a s ≡ a
at_unit s a hs ha = omega arith

pub joined_bits_unit : (s a : ℕ) → joined_bits s a s ≡ a
joined_bits_unit s a =
    same_from_bits _ _ (λ i. rw (bit_at_joined s a s i) (at_unit _ _ (bit_at-lt s i) (bit_at-lt a i)))

-- ---- flags

pub joined_flag_symmetric : (s a b : Bool) → joined_flag s a b ≡ joined_flag s b a
joined_flag_symmetric false false false = refl
joined_flag_symmetric false false true = refl
joined_flag_symmetric false true false = refl
joined_flag_symmetric false true true = refl
joined_flag_symmetric true false false = refl
joined_flag_symmetric true false true = refl
joined_flag_symmetric true true false = refl
joined_flag_symmetric true true true = refl

pub joined_flag_grouped : (s a b c : Bool)
    → joined_flag s (joined_flag s a b) c ≡ joined_flag s a (joined_flag s b c)
joined_flag_grouped false false b c = refl
joined_flag_grouped false true b c = refl
joined_flag_grouped true false b c = refl
joined_flag_grouped true true b c = refl

pub joined_flag_unit : (s a : Bool) → joined_flag s a s ≡ a
joined_flag_unit false false = refl
joined_flag_unit false true = refl
joined_flag_unit true false = refl
joined_flag_unit true true = refl
