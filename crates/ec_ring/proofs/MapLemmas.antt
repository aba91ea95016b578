-- A list whose elements are changed one after the other.
use Rattle.std.specs.Prelude.{◌≡◌, ℕ, zero, suc, ◌+◌, ◌<◌, List, [], ◌∷◌, length, map, refl}
use Rattle.std.proofs.Common.{arith, ap, get_or, set, add-one}

-- from a place on each element is changed
pub map_from : {X : Type 0} → (X → X) → ℕ → List X → List X
map_from f zero xs = map f xs
map_from f (suc i) [] = []
map_from f (suc i) (x ∷ xs) = x ∷ map_from f i xs

pub map_from-zero : {X : Type 0} (f : X → X) (xs : List X) → map_from f zero xs ≡ map f xs
unfolding map_from
map_from-zero f xs = refl

-- one element more is changed
pub map_from-suc : {X : Type 0} (f : X → X) (i : ℕ) (xs : List X) (d : X) → i < length xs
    → map_from f (suc i) (set xs i (f (get_or xs i d))) ≡ map_from f i xs
unfolding map_from
map_from-suc f i [] d h = absurd (omega (arith, h))
map_from-suc f zero (x ∷ xs) d h = refl
map_from-suc {X} f (suc i) (x ∷ xs) d h =
    ap {B = List X} (λ ys. x ∷ ys) (map_from-suc f i xs d (omega (arith, h)))

pub map_from-next : {X : Type 0} (f : X → X) (i : ℕ) (xs : List X) (d : X) → i < length xs
    → map_from f (i + 1) (set xs i (f (get_or xs i d))) ≡ map_from f i xs
map_from-next f i xs d h = rw add-one (map_from-suc f i xs d h)

-- all are changed
pub map_from-length : {X : Type 0} (f : X → X) (xs : List X) → map_from f (length xs) xs ≡ xs
unfolding map_from
map_from-length f [] = refl
map_from-length {X} f (x ∷ xs) = ap {B = List X} (λ ys. x ∷ ys) (map_from-length f xs)
