-- Joined bytes, one by one and by lanes.
use Rattle.std.proofs.Common.{◌≡◌, ◌≢◌, ◌⊎◌, inl, inr, Bool, true, false, ℕ, zero, suc, ◌+◌, ◌-◌, ◌<◌, ◌≤◌}
use Rattle.std.proofs.Common.{List, [], ◌∷◌, length, get_or, refl, sym, ap, ◌∙◌, bit_xor, bit_or, arith}
use Rattle.std.specs.Int.{bit_at}
use Rattle.std.specs.Simd.Lanes.{zip2, chunk, put_chunk}
use Rattle.std.proofs.lemmas.Bool.{cases_eq, cases_lt, true≢false, false≢true}
use Rattle.std.proofs.lemmas.Grind.{same_number_lists}
use Rattle.std.proofs.lemmas.Nat.Bits.{bit_at-lt, same_from_bits}
use Rattle.std.proofs.lemmas.Simd.{length-chunk, get_or-chunk, length-put_chunk, get_or-put_chunk_below}
use Rattle.std.proofs.lemmas.Simd.{get_or-put_chunk_at, get_or-put_chunk_above}
use Rattle.ec_merge.specs.Rule.{joined_bits, joined_flag, IsJoinedBit}
use Rattle.ec_merge.specs.Laws.{joined_at, bit_at_joined, joined_bits_unit, joined_bits_symmetric}
use Rattle.ec_merge.specs.Bytes.{IsJoined, IsJoinedUpTo, joined_bytes}

-- ---- the bit rule

-- the rule holds of what the bits give
joined_at-rule : (s a b : ℕ) → s < 2 → a < 2 → b < 2 → IsJoinedBit s a b (joined_at s a b)
joined_at-rule s a b hs ha hb =
    (λ ne. elim (cases_eq a s) [ inl same ↦ inr (λ e. ne (omega arith)) | inr other ↦ inl other ], either)
  where
    either : (a ≢ s) ⊎ (b ≢ s) → joined_at s a b ≢ s
    either (inl ne) = λ e. ne (omega arith)
    either (inr ne) = λ e. ne (omega arith)

-- so it holds of joined numbers
pub joined_bits-rule : (s a b i : ℕ)
    → IsJoinedBit (bit_at s i) (bit_at a i) (bit_at b i) (bit_at (joined_bits s a b) i)
joined_bits-rule s a b i =
    rw (bit_at_joined s a b i) (joined_at-rule _ _ _ (bit_at-lt s i) (bit_at-lt a i) (bit_at-lt b i))

-- and of joined flags
pub joined_flag-rule : (s a b : Bool) → IsJoinedBit s a b (joined_flag s a b)
joined_flag-rule false false b = (λ ne. inr ne, elim [ inl ne ↦ absurd (ne refl) | inr ne ↦ ne ])
joined_flag-rule false true b = (λ ne. inl ne, λ _. true≢false)
joined_flag-rule true false b = (λ ne. inl ne, λ _. false≢true)
joined_flag-rule true true b = (λ ne. inr ne, elim [ inl ne ↦ absurd (ne refl) | inr ne ↦ ne ])

-- the rule leaves one value
joined_bit-one : (s a b x y : ℕ) → s < 2 → x < 2 → y < 2 → IsJoinedBit s a b x → IsJoinedBit s a b y → x ≡ y
joined_bit-one s a b x y hs hx hy rx ry =
    elim (cases_eq x s) [
      | inl x_same ↦ elim (cases_eq y s)
          [ inl y_same ↦ x_same ∙ sym y_same | inr y_other ↦ absurd (rx.1 (ry.0 y_other) x_same) ]
      | inr x_other ↦ let y_other : y ≢ s = ry.1 (rx.0 x_other) in omega arith
    ]

-- the rule determines the bytes
pub IsJoined-one : (sent a b x y : List ℕ) → IsJoined sent a b x → IsJoined sent a b y → x ≡ y
IsJoined-one sent a b x y hx hy =
    same_number_lists x y (hx.count ∙ sym hy.count) (λ k _.
    same_from_bits _ _
    (λ i. joined_bit-one _ _ _ _ _ (bit_at-lt (get_or sent k 0) i) (bit_at-lt (get_or x k 0) i)
    (bit_at-lt (get_or y k 0) i) (hx.bits k i) (hy.bits k i)))

-- ---- one by one

pub length-joined : (s a b : List ℕ) → length a ≡ length s → length b ≡ length s
    → length (joined_bytes s a b) ≡ length s
length-joined [] a b ha hb = refl
length-joined (s ∷ ss) [] b ha hb = ha
length-joined (s ∷ ss) (x ∷ xs) [] ha hb = hb
length-joined (s ∷ ss) (x ∷ xs) (y ∷ ys) ha hb = ap suc (length-joined ss xs ys (omega arith) (omega arith))

-- a byte of joined bytes; past their end all are 0
pub get_or-joined : (s a b : List ℕ) (k : ℕ) → length a ≡ length s → length b ≡ length s
    → get_or (joined_bytes s a b) k 0 ≡ joined_bits (get_or s k 0) (get_or a k 0) (get_or b k 0)
get_or-joined [] [] [] k ha hb = sym (joined_bits_unit 0 0)
get_or-joined [] [] (y ∷ ys) k ha hb = absurd (omega arith)
get_or-joined [] (x ∷ xs) b k ha hb = absurd (omega arith)
get_or-joined (s ∷ ss) [] b k ha hb = absurd (omega arith)
get_or-joined (s ∷ ss) (x ∷ xs) [] k ha hb = absurd (omega arith)
get_or-joined (s ∷ ss) (x ∷ xs) (y ∷ ys) zero ha hb = refl
get_or-joined (s ∷ ss) (x ∷ xs) (y ∷ ys) (suc k) ha hb = get_or-joined ss xs ys k (omega arith) (omega arith)

-- joined bytes follow the bit rule
pub IsJoined-joined : (s a b : List ℕ) → length a ≡ length s → length b ≡ length s
    → IsJoined s a b (joined_bytes s a b)
IsJoined-joined s a b ha hb = record {
  count = length-joined s a b ha hb;
  bits = λ k i.
      rw (get_or-joined s a b k ha hb) (joined_bits-rule (get_or s k 0) (get_or a k 0) (get_or b k 0) i);
}

-- bytes that are joined at each place are the joined bytes
pub joined_from_each : (s a b now : List ℕ) → length a ≡ length s → length b ≡ length s
    → length now ≡ length s
    → ((k : ℕ) → k < length s → get_or now k 0 ≡ joined_bits (get_or s k 0) (get_or a k 0) (get_or b k 0))
    → now ≡ joined_bytes s a b
joined_from_each s a b now ha hb hn each =
    same_number_lists now (joined_bytes s a b) (hn ∙ sym (length-joined s a b ha hb))
    (λ k within. each k (omega arith) ∙ sym (get_or-joined s a b k ha hb))

-- ---- beside a copy as it was sent

-- a copy of the data as they were sent changes nothing
pub joined_unit : (ss xs : List ℕ) → length xs ≡ length ss → joined_bytes ss xs ss ≡ xs
joined_unit [] [] size = refl
joined_unit [] (x ∷ xs) size = absurd (omega (arith, size))
joined_unit (s ∷ ss) [] size = absurd (omega (arith, size))
joined_unit (s ∷ ss) (x ∷ xs) size =
    ap (λ (n : ℕ). n ∷ joined_bytes ss xs ss) (joined_bits_unit s x)
    ∙ ap (λ (ns : List ℕ). x ∷ ns) (joined_unit ss xs (omega (arith, size)))

-- whichever of the two it is
pub joined_unit_first : (ss xs : List ℕ) → length xs ≡ length ss → joined_bytes ss ss xs ≡ xs
joined_unit_first [] [] size = refl
joined_unit_first [] (x ∷ xs) size = absurd (omega (arith, size))
joined_unit_first (s ∷ ss) [] size = absurd (omega (arith, size))
joined_unit_first (s ∷ ss) (x ∷ xs) size =
    ap (λ (n : ℕ). n ∷ joined_bytes ss ss xs) (joined_bits_symmetric s s x ∙ joined_bits_unit s x)
    ∙ ap (λ (ns : List ℕ). x ∷ ns) (joined_unit_first ss xs (omega (arith, size)))

-- ---- by lanes

-- the lanes of a vector are joined each
pub joined-zip2 : (s a b : List ℕ)
    → joined_bytes s a b ≡ zip2 bit_xor s (zip2 bit_or (zip2 bit_xor a s) (zip2 bit_xor b s))
joined-zip2 [] a b = refl
joined-zip2 (s ∷ ss) [] b = refl
joined-zip2 (s ∷ ss) (x ∷ xs) [] = refl
joined-zip2 (s ∷ ss) (x ∷ xs) (y ∷ ys) = ap (λ rest. joined_bits s x y ∷ rest) (joined-zip2 ss xs ys)

-- one block more is joined
pub one_block_more : (n : ℕ) (s a b before now : List ℕ) → length a ≡ length s → length b ≡ length s
    → n + 32 ≤ length s → IsJoinedUpTo n s a b before
    → now ≡ put_chunk n before (joined_bytes (chunk n 32 s) (chunk n 32 before) (chunk n 32 b))
    → IsJoinedUpTo (n + 32) s a b now
one_block_more n s a b before now ha hb room was made =
    let ls : length (chunk n 32 s) ≡ 32 = length-chunk n 32 s room in
    let la : length (chunk n 32 before) ≡ 32 = length-chunk n 32 before (omega (arith, was.count)) in
    let lb : length (chunk n 32 b) ≡ 32 = length-chunk n 32 b (omega arith) in
    let block = joined_bytes (chunk n 32 s) (chunk n 32 before) (chunk n 32 b) in
    let long : length block ≡ 32 = length-joined _ _ _ (la ∙ sym ls) (lb ∙ sym ls) ∙ ls in
    let inside : (j : ℕ) → j < 32
    → get_or block j 0 ≡ joined_bits (get_or s (n + j) 0) (get_or a (n + j) 0) (get_or b (n + j) 0)
    = λ j small. get_or-joined _ _ _ j (la ∙ sym ls) (lb ∙ sym ls)
    ∙ rw (
      get_or-chunk n 32 s j 0 small,
      get_or-chunk n 32 before j 0 small,
      get_or-chunk n 32 b j 0 small,
      was.rest (n + j) (omega arith),
    ) refl in
    rw made record {
      count = length-put_chunk n before block ∙ was.count;
      joined = λ k below. elim (cases_lt k n) [
        | inl earlier ↦ get_or-put_chunk_below n before block k 0 earlier ∙ was.joined k earlier
        | inr later ↦
            let place : k ≡ n + (k - n) = omega arith in
            rw place (get_or-put_chunk_at n before block (k - n) 0 (omega arith) (omega (arith, was.count))
            ∙ inside (k - n) (omega arith))
      ];
      rest = λ k past. get_or-put_chunk_above n before block k 0 (omega arith) ∙ was.rest k (omega arith);
    }

-- blocks first and the rest after them
pub joined_from_parts : (n : ℕ) (s a b middle now : List ℕ) → length a ≡ length s → length b ≡ length s
    → IsJoinedUpTo n s a b middle → length now ≡ length middle
    → ((k : ℕ) → k < n → get_or now k 0 ≡ get_or middle k 0)
    → ((k : ℕ) → n ≤ k → k < length s
    → get_or now k 0 ≡ joined_bits (get_or s k 0) (get_or middle k 0) (get_or b k 0))
    → now ≡ joined_bytes s a b
joined_from_parts n s a b middle now ha hb blocks same before after =
    joined_from_each s a b now ha hb (same ∙ blocks.count ∙ ha) (λ k within.
    elim (cases_lt k n) [
      | inl early ↦ before k early ∙ blocks.joined k early
      | inr late ↦ after k late within
          ∙ ap (λ x. joined_bits (get_or s k 0) x (get_or b k 0)) (blocks.rest k late)
    ])
