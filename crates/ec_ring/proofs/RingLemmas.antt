-- The controllers of slaves, and slaves with other controllers.
use Rattle.std.specs.Prelude.{◌≡◌, ℕ, suc, List, [], ◌∷◌, length, refl}
use Rattle.std.proofs.Common.{arith, ap}
use Rattle.ec_app.specs.Lending.{with_controller}
use Rattle.ec_app.specs.State.{SlaveState}
use Rattle.ec_esc.specs.State.{ControllerState}
use Rattle.ec_ring.specs.Ring.{controllers, with_controllers}

pub length-controllers : (ss : List SlaveState) → length (controllers ss) ≡ length ss
length-controllers [] = refl
length-controllers (s ∷ ss) = ap (λ (n : ℕ). suc n) (length-controllers ss)

-- as many other controllers are there
pub controllers-with_controllers : (ss : List SlaveState) (cs : List ControllerState) → length cs ≡ length ss
    → controllers (with_controllers ss cs) ≡ cs
controllers-with_controllers [] [] h = refl
controllers-with_controllers [] (c ∷ cs) h = absurd (omega (arith, h))
controllers-with_controllers (s ∷ ss) [] h = absurd (omega (arith, h))
controllers-with_controllers (s ∷ ss) (c ∷ cs) h =
    ap (λ (xs : List ControllerState). c ∷ xs) (controllers-with_controllers ss cs (omega (arith, h)))

-- others stand in their place
pub with_controllers-with_controllers : (ss : List SlaveState) (cs ds : List ControllerState)
    → length cs ≡ length ds
    → with_controllers (with_controllers ss cs) ds ≡ with_controllers ss ds
with_controllers-with_controllers [] cs ds h = refl
with_controllers-with_controllers (s ∷ ss) [] [] h = refl
with_controllers-with_controllers (s ∷ ss) [] (d ∷ ds) h = absurd (omega (arith, h))
with_controllers-with_controllers (s ∷ ss) (c ∷ cs) [] h = absurd (omega (arith, h))
with_controllers-with_controllers (s ∷ ss) (c ∷ cs) (d ∷ ds) h =
    ap (λ (xs : List SlaveState). with_controller s d ∷ xs)
    (with_controllers-with_controllers ss cs ds (omega (arith, h)))

pub length-with_controllers : (ss : List SlaveState) (cs : List ControllerState)
    → length (with_controllers ss cs) ≡ length ss
length-with_controllers [] cs = refl
length-with_controllers (s ∷ ss) [] = refl
length-with_controllers (s ∷ ss) (c ∷ cs) = ap (λ (n : ℕ). suc n) (length-with_controllers ss cs)
