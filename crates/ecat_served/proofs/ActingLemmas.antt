-- What the slaves of a served line do behind a packet is what its applications may do.
use Rattle.std.specs.Prelude.{◌≡◌, ℕ, List, [], ◌∷◌, length, map, Some, slice_get, All}
use Rattle.std.proofs.Common.{sym, ◌∙◌}
use Rattle.ec_regs.specs.Bits.{AreBytes}
use Rattle.ec_app.specs.Slave.{step}
use Rattle.ec_app.specs.State.{SlaveState}
use Rattle.ec_esc.specs.State.{IsController}
use Rattle.ec_line.specs.Moving.{HasMoved}
use Rattle.ec_ring.specs.Ring.{RingState, controllers, line_of, stepped}
use Rattle.ec_applications.specs.Acting.{acted}
use Rattle.ec_applications.specs.Behind.{line_acted, line_behind}
use Rattle.ec_applications.specs.Eeproms.{all_served}
use Rattle.ec_applications.specs.State.{ApplicationsState, once_more}
use Rattle.ec_applications.specs.declared.application.Application.{Application}
use Rattle.ec_applications.specs.declared.eeproms.PlacedEeprom.{PlacedEeprom}
use Rattle.ecat_served.specs.Acting.{StaysSound, once_acted}
use Rattle.ecat_served.specs.History.{AllHaveMoved, AreControllers}
use Rattle.ecat_served.proofs.EachLemmas.{each_at, moved_each}
use Rattle.ecat_served.proofs.MovedLemmas.{all_moved-trans}
use Rattle.ecat_served.proofs.SoundLemmas.{acted_is}

-- ---- what is known of one slave

abbrev pub StepMoves : Type 0
StepMoves = (s : SlaveState) → IsController s.controller → IsController (step s).controller
    → HasMoved s.controller (step s).controller

abbrev pub ActingMoves : Type 0
ActingMoves = (times : ℕ) (all : List Application) (r : RingState) (k : ℕ) (before after : SlaveState)
    → slice_get r.slaves k ≡ Some before → slice_get (acted times all r).slaves k ≡ Some after
    → IsController before.controller → IsController after.controller
    → HasMoved before.controller after.controller

abbrev pub ServingMoves : Type 0
ServingMoves = (all : List PlacedEeprom) (r : RingState) (k : ℕ) (before after : SlaveState)
    → slice_get r.slaves k ≡ Some before → slice_get (all_served all r).slaves k ≡ Some after
    → IsController before.controller → All (λ (one : PlacedEeprom). AreBytes one.eeprom) all
    → HasMoved before.controller after.controller

abbrev pub SizeActed : Type 0
SizeActed = (times : ℕ) (all : List Application) (r : RingState)
    → length (acted times all r).slaves ≡ length r.slaves

abbrev pub SizeBehind : Type 0
SizeBehind = (s : ApplicationsState) (r : RingState) → length (line_behind s r).slaves ≡ length r.slaves

-- ---- behind a packet

all_step : StepMoves → (ss : List SlaveState) → AreControllers (controllers ss)
    → AreControllers (controllers (map step ss)) → AllHaveMoved (controllers ss) (controllers (map step ss))
all_step steps [] before after = tt
all_step steps (s ∷ ss) before after =
    (steps s before.0 after.0, all_step steps ss before.1 after.1)

pub moved_behind : StepMoves → ActingMoves → ServingMoves → SizeActed → SizeBehind
    → (s : ApplicationsState) (r : RingState) → StaysSound s r
    → AllHaveMoved (line_of r) (line_of (once_acted s r))
moved_behind steps acts serves size_acted size_behind s r sound =
    let one : RingState = stepped r in
    let two : RingState = line_acted s one in
    let three : RingState = line_behind s one in
    let times : ℕ = (once_more s).acted in
    let to_two : length two.slaves ≡ length one.slaves = size_acted times s.all one in
    let to_three : length three.slaves ≡ length two.slaves = size_behind s one ∙ sym to_two in
    let stepping : AllHaveMoved (line_of r) (line_of one) =
    all_step steps r.slaves sound.before sound.stepped_is in
    let acted_are : AreControllers (line_of two) = acted_is times s.all one sound.stepped_is in
    let acting : AllHaveMoved (line_of one) (line_of two) =
    moved_each one.slaves two.slaves to_two
    (λ k x y there later. acts times s.all one k x y there later
    (each_at one.slaves k x sound.stepped_is there) (each_at two.slaves k y acted_are later)) in
    let serving : AllHaveMoved (line_of two) (line_of three) =
    moved_each two.slaves three.slaves to_three
    (λ k x y there later. serves s.eeproms two k x y there later
    (each_at two.slaves k x acted_are there) sound.eeproms) in
    all_moved-trans (line_of r) (line_of one) (line_of three) stepping
    (all_moved-trans (line_of one) (line_of two) (line_of three) acting serving)
