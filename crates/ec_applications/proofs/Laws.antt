-- The laws that crates above cite: on lines that are told of their links.
use Rattle.std.proofs.Common.{◌≡◌, ℕ, Bool}
use Rattle.ec_esc.specs.State.{ControllerState, IsController}
use Rattle.ec_ring.specs.Ring.{RingState}
use Rattle.ec_applications.specs.Links.{controller_told, first_told}
use Rattle.ec_applications.proofs.LinkLemmas as links

-- the links stay
pub told_links : (is_up : ℕ → Bool) (n : ℕ) (r : RingState) → (first_told is_up n r).links ≡ r.links
told_links = links.told_links

-- what is told goes by which links are up, however that is said
pub told_same : (f g : ℕ → Bool) → ((k : ℕ) → f k ≡ g k) → (n : ℕ) (r : RingState)
    → first_told f n r ≡ first_told g n r
told_same = links.told_same

-- a controller that is told of its links stays one
pub told_controller : (status : ℕ) (c : ControllerState) → IsController c
    → IsController (controller_told status c)
told_controller = links.told_controller
