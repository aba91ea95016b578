-- The laws that crates above cite: on controllers whose slave information interface was served.
use Rattle.std.proofs.Common.{◌≡◌, ℕ, false, List, length, get_or}
use Rattle.ec_regs.specs.Bits.{AreBytes}
use Rattle.ec_regs.specs.declared.registers.TheConstants.{MEMORY_SIZE}
use Rattle.ec_areas.specs.Ranges.{has_sii, is_in_sii}
use Rattle.ec_esc.specs.State.{ControllerState, IsController}
use Rattle.ec_line.specs.Mapping.{mapping_of}
use Rattle.ec_line.specs.Moving.{HasMoved}
use Rattle.ec_sii.specs.Served.{served}
use Rattle.ec_sii.proofs.ServedLemmas as serving

-- a controller without the interface stays
pub served_without : (contents : List ℕ) (c : ControllerState) → has_sii c.memory ≡ false
    → served contents c ≡ c
served_without = serving.served_without

-- one with it stays a controller
pub served_controller : (contents : List ℕ) (c : ControllerState) → IsController c → AreBytes contents
    → IsController (served contents c)
served_controller = serving.served_controller

-- its mapping stays
pub served_mapping : (contents : List ℕ) (c : ControllerState) → IsController c → AreBytes contents
    → mapping_of (served contents c) ≡ mapping_of c
served_mapping = serving.served_mapping

-- and it has moved
pub served_moved : (contents : List ℕ) (c : ControllerState) → IsController c → AreBytes contents
    → HasMoved c (served contents c)
served_moved = serving.served_moved

-- what it is shown stays, and whether AL control was written
pub served_shown : (contents : List ℕ) (c : ControllerState) → (served contents c).shown ≡ c.shown
served_shown = serving.served_shown

pub served_written : (contents : List ℕ) (c : ControllerState) → (served contents c).written ≡ c.written
served_written = serving.served_written

-- its memory keeps its size, and each byte that is no register of the interface
pub served_size : (contents : List ℕ) (c : ControllerState) → length c.memory ≡ MEMORY_SIZE
    → length (served contents c).memory ≡ MEMORY_SIZE
served_size = serving.served_size

pub served_beside : (contents : List ℕ) (c : ControllerState) (a : ℕ) → length c.memory ≡ MEMORY_SIZE
    → is_in_sii a ≡ false → get_or (served contents c).memory a 0 ≡ get_or c.memory a 0
served_beside = serving.served_beside
