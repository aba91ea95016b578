-- Lines whose slaves have moved: all of them, and twice.
use Rattle.std.specs.Prelude.{◌≡◌, suc, List, [], ◌∷◌, length}
use Rattle.std.proofs.Common.{ap, refl}
use Rattle.ec_esc.specs.State.{ControllerState}
use Rattle.ec_line.proofs.Laws.{moved-refl, moved-trans}
use Rattle.ecat_served.specs.History.{AllHaveMoved}

pub all_moved-refl : (xs : List ControllerState) → AllHaveMoved xs xs
all_moved-refl [] = tt
all_moved-refl (x ∷ xs) = (moved-refl x, all_moved-refl xs)

pub all_moved-trans : (xs ys zs : List ControllerState) → AllHaveMoved xs ys → AllHaveMoved ys zs
    → AllHaveMoved xs zs
all_moved-trans [] [] zs one two = two
all_moved-trans [] (y ∷ ys) zs one two = absurd one
all_moved-trans (x ∷ xs) [] zs one two = absurd one
all_moved-trans (x ∷ xs) (y ∷ ys) [] one two = absurd two
all_moved-trans (x ∷ xs) (y ∷ ys) (z ∷ zs) one two =
    (moved-trans x y z one.0 two.0, all_moved-trans xs ys zs one.1 two.1)

-- they are as many
pub all_moved-length : (xs ys : List ControllerState) → AllHaveMoved xs ys → length ys ≡ length xs
all_moved-length [] [] moved = refl
all_moved-length [] (y ∷ ys) moved = absurd moved
all_moved-length (x ∷ xs) [] moved = absurd moved
all_moved-length (x ∷ xs) (y ∷ ys) moved = ap suc (all_moved-length xs ys moved.1)
