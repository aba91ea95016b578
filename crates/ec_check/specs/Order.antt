-- Faults are compared by their numbers, in the order of a dictionary.
use Rattle.std.specs.Prelude.{◌≡◌, ◌⊎◌, ◌<◌, ◌≤◌, ⊤, ℕ, List, [], ◌∷◌, Option, None, Some}

-- at the first place at which the two lists differ the first one has the smaller number
abbrev pub IsBefore : List ℕ → List ℕ → Type 0
IsBefore [] ys = ⊥
IsBefore (x ∷ xs) [] = ⊥
IsBefore (x ∷ xs) (y ∷ ys) = (x < y) ⊎ ((x ≡ y) × IsBefore xs ys)

-- the second list begins with the first
abbrev pub BeginsWith : List ℕ → List ℕ → Type 0
BeginsWith [] ys = ⊤
BeginsWith (x ∷ xs) [] = ⊥
BeginsWith (x ∷ xs) (y ∷ ys) = (x ≡ y) × BeginsWith xs ys

-- the least number of those that P holds of, if there is one
abbrev pub IsLowest : (ℕ → Type 0) → Option ℕ → Type 0
IsLowest P None = (n : ℕ) → ¬ P n
IsLowest P (Some n) = P n × ((m : ℕ) → P m → n ≤ m)
