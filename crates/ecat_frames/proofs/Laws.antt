-- What crates above cite of packets that are counted: the least, the greatest and the count with one more.
use Rattle.std.proofs.Common.{◌≡◌, ℕ, ◌+◌, min, max, List, [], ◌∷◌, ◌++◌, length, refl, arith, ap, sym, ◌∙◌}
use Rattle.std.specs.Io.Iter.{u64_saturate}
use Rattle.std.proofs.lemmas.List.{length_push}
use Rattle.ecat_frames.specs.Notes.{greatest_of, least_of}

-- a count that has stopped stays
saturated_more : (n : ℕ) → u64_saturate (u64_saturate n + 1) ≡ u64_saturate (n + 1)
saturated_more n = grind arith

-- the least of one number more
pub least_push : (n : ℕ) (ms : List ℕ) (m : ℕ) → least_of n (ms ++ m ∷ []) ≡ min (least_of n ms) m
least_push n [] m = refl
least_push n (k ∷ ks) m = least_push (min n k) ks m

pub greatest_push : (n : ℕ) (ms : List ℕ) (m : ℕ) → greatest_of n (ms ++ m ∷ []) ≡ max (greatest_of n ms) m
greatest_push n [] m = refl
greatest_push n (k ∷ ks) m = greatest_push (max n k) ks m

-- one more is counted
pub count_more : (all : List ℕ) (n count : ℕ) → count ≡ u64_saturate (length all)
    → u64_saturate (count + 1) ≡ u64_saturate (length (all ++ n ∷ []))
count_more all n count h =
    ap (λ c. u64_saturate (c + 1)) h ∙ saturated_more (length all) ∙ ap u64_saturate (sym (length_push all n))
