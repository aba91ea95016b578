-- A list whose items are changed each by the items at their place in two others.
use Rattle.std.specs.Prelude.{List, [], ◌∷◌}

-- as far as all three go; what is left stays
abbrev pub zipped : {X : Type 0} → (X → X → X → X) → List X → List X → List X → List X
zipped f [] ys zs = ys
zipped f (x ∷ xs) [] zs = []
zipped f (x ∷ xs) (y ∷ ys) [] = y ∷ ys
zipped f (x ∷ xs) (y ∷ ys) (z ∷ zs) = f x y z ∷ zipped f xs ys zs
