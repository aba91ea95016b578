-- What holds of each slave's controller holds of the line.
use Rattle.std.specs.Prelude.{◌≡◌, ℕ, zero, suc, List, [], ◌∷◌, length, Some, slice_get, refl}
use Rattle.std.proofs.Common.{arith, subst}
use Rattle.ec_app.specs.State.{SlaveState}
use Rattle.ec_esc.specs.State.{IsController}
use Rattle.ec_line.specs.Moving.{HasMoved}
use Rattle.ec_ring.specs.Ring.{controllers}
use Rattle.ecat_served.specs.History.{AllHaveMoved, AreControllers}

pub each_at : (ss : List SlaveState) (k : ℕ) (x : SlaveState) → AreControllers (controllers ss)
    → slice_get ss k ≡ Some x → IsController x.controller
each_at [] k x all at = absurd (let no : slice_get [] k ≡ Some x = at in cc)
each_at (s ∷ ss) zero x all at =
    subst (λ (y : SlaveState). IsController y.controller) (let is : s ≡ x = cc in is) all.0
each_at (s ∷ ss) (suc k) x all at = each_at ss k x all.1 at

pub moved_each : (ss ts : List SlaveState) → length ts ≡ length ss
    → ((k : ℕ) (x y : SlaveState) → slice_get ss k ≡ Some x → slice_get ts k ≡ Some y
    → HasMoved x.controller y.controller)
    → AllHaveMoved (controllers ss) (controllers ts)
moved_each [] [] size each = tt
moved_each [] (y ∷ ts) size each = absurd (omega (arith, size))
moved_each (x ∷ ss) [] size each = absurd (omega (arith, size))
moved_each (x ∷ ss) (y ∷ ts) size each =
    (each 0 x y refl refl, moved_each ss ts (omega (arith, size)) (λ k. each (suc k)))
