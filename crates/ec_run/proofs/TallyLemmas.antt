-- What is kept of numbers that come one by one.
use Rattle.std.proofs.Common.{◌≡◌, ◌<◌, ◌≤◌, ◌+◌, ◌%◌, ◌++◌, ap, refl, add-one, arith, ℕ, zero, suc, List, [], ◌∷◌}
use Rattle.std.proofs.Common.{length, take}
use Rattle.ec_run.specs.Tally.{TallyRecord, first_of, total_of, without_counts}

-- the first ones and one more
pub first-more : (number : ℕ → ℕ) (n : ℕ) → first_of number (n + 1) ≡ first_of number n ++ number n ∷ []
unfolding first_of
first-more number n = ap (first_of number) (add-one n)

pub first-none : (number : ℕ → ℕ) → first_of number 0 ≡ []
unfolding first_of
first-none number = refl

-- their sum and one more
pub total-more : (number : ℕ → ℕ) (n : ℕ) → total_of number (n + 1) ≡ (total_of number n + number n) % 65536
unfolding total_of
total-more number n = ap (total_of number) (add-one n)

pub total-none : (number : ℕ → ℕ) → total_of number 0 ≡ 0
unfolding total_of
total-none number = refl

-- one more is kept while there is room
pub take-room : {S : Type 0} (n : ℕ) (xs : List S) (y : S) → length (take n xs) < n
    → take n (xs ++ y ∷ []) ≡ take n xs ++ y ∷ []
take-room zero xs y room = absurd (omega (arith, room))
take-room {S} (suc zero) [] y room = refl
take-room {S} (suc (suc n)) [] y room = refl
take-room {S} (suc n) (x ∷ xs) y room = ap (λ (l : List S). x ∷ l) (take-room n xs y (omega (arith, room)))

pub take-full : {S : Type 0} (n : ℕ) (xs : List S) (y : S) → length (take n xs) ≡ n
    → take n (xs ++ y ∷ []) ≡ take n xs
take-full zero xs y full = refl
take-full (suc n) [] y full = absurd (omega (arith, full))
take-full {S} (suc n) (x ∷ xs) y full = ap (λ (l : List S). x ∷ l) (take-full n xs y (omega (arith, full)))

pub take-whole : {S : Type 0} (n : ℕ) (xs : List S) → length xs ≤ n → take n (xs ++ []) ≡ xs
take-whole zero [] fits = refl
take-whole zero (x ∷ xs) fits = absurd (omega (arith, fits))
take-whole (suc n) [] fits = refl
take-whole {S} (suc n) (x ∷ xs) fits = ap (λ (l : List S). x ∷ l) (take-whole n xs (omega (arith, fits)))

-- what is told is the counts and the rest
pub with_counts : (h other : TallyRecord) (counts : List ℕ) → h.counts ≡ counts
    → without_counts h ≡ without_counts other → h ≡ record other { counts = counts }
with_counts h other counts same rest = λ t. record (rest t) { counts = same t }
