-- What frames leave in the memories of a line, shown bytes aside.
use Rattle.std.specs.Prelude.{◌≡◌, ℕ, zero, suc, List, [], ◌∷◌}
use Rattle.ec_esc.specs.State.{ControllerState}

-- two lines whose controllers have the same memories
abbrev pub SameMemories : List ControllerState → List ControllerState → Type 0
SameMemories [] [] = Unit {0}
SameMemories (y ∷ ys) (z ∷ zs) = (y.memory ≡ z.memory) × SameMemories ys zs
SameMemories _ _ = ⊥

-- a thing holds of each member between the first `front` ones and those from number `back` on
abbrev pub AllBetween : {S : Type 0} → (S → Type 0) → ℕ → ℕ → List S → Type 0
AllBetween P front back [] = Unit {0}
AllBetween P zero zero (x ∷ xs) = Unit {0}
AllBetween P zero (suc back) (x ∷ xs) = P x × AllBetween P zero back xs
AllBetween P (suc front) zero (x ∷ xs) = Unit {0}
AllBetween P (suc front) (suc back) (x ∷ xs) = AllBetween P front back xs

-- a line whose first `front` members are changed, and those from number `back` on, each once
abbrev pub reached_after : {S : Type 0} → (S → S) → ℕ → ℕ → List S → List S
reached_after f front back [] = []
reached_after f zero zero (x ∷ xs) = f x ∷ reached_after f zero zero xs
reached_after f zero (suc back) (x ∷ xs) = x ∷ reached_after f zero back xs
reached_after f (suc front) zero (x ∷ xs) = f x ∷ reached_after f front zero xs
reached_after f (suc front) (suc back) (x ∷ xs) = f x ∷ reached_after f front back xs
