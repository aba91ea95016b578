-- The controllers of a line.
use Rattle.std.proofs.Common.{◌≡◌, ℕ, ◌<◌, List, length, get_or, sym, ap, ◌∙◌}
use Rattle.std.proofs.lemmas.List.{get_or-map, length-map}
use Rattle.ec_app.specs.State.{SlaveState}
use Rattle.ec_esc.specs.State.{ControllerState}
use Rattle.ec_check.specs.Line.{controllers, controllers_by, controller_of}

-- the controller under a number is that of what stands under it
pub controller_of-controllers_by : {S : Type 0} (controller : S → ControllerState) (line : List S) (i : ℕ)
    (s : S) → i < length line → s ≡ get_or line i s
    → controller_of (controllers_by controller line) i ≡ controller s
controller_of-controllers_by controller line i s inside is =
    get_or-map controller line i s _ inside ∙ ap controller (sym is)

-- there are as many controllers as there stand
pub length-controllers_by : {S : Type 0} (controller : S → ControllerState) (line : List S)
    → length (controllers_by controller line) ≡ length line
length-controllers_by controller line = length-map line controller

-- the controller under a number is that of the slave under it
pub controller_of-controllers : (slaves : List SlaveState) (i : ℕ) (s : SlaveState) → i < length slaves
    → s ≡ get_or slaves i s
    → controller_of (controllers slaves) i ≡ s.controller
controller_of-controllers = controller_of-controllers_by (λ (x : SlaveState). x.controller)

-- there are as many controllers as slaves
pub length-controllers : (slaves : List SlaveState) → length (controllers slaves) ≡ length slaves
length-controllers = length-controllers_by (λ (x : SlaveState). x.controller)
