-- Controllers stay controllers where their applications act, and where they are told of their links.
use Rattle.std.specs.Prelude.{◌≡◌, ℕ, zero, suc, Bool, true, false, if◌then◌else◌, is_none}
use Rattle.std.specs.Prelude.{List, [], ◌∷◌, Option, None, Some, slice_get, slice_set, refl, ◌-◌, ◌+◌, ◌&&◌}
use Rattle.ec_regs.specs.Bits.{AreBytes}
use Rattle.ec_regs.specs.declared.registers.TheConstants.{PROCESS_MEMORY, PROCESS_MEMORY_SIZE}
use Rattle.ec_regs.specs.declared.sync_man.SyncMan.{SyncMan}
use Rattle.ec_areas.specs.Records.{sync_manager_at}
use Rattle.ec_app.specs.State.{SlaveState}
use Rattle.ec_esc.specs.Application.{outputs_of, put_inputs_fault, shown_area, with_inputs}
use Rattle.ec_esc.specs.State.{ControllerState, IsController}
use Rattle.ec_esc.specs.declared.application.AreaFault.{AreaFault}
use Rattle.ec_esc.proofs.Laws.{inputs_controller}
use Rattle.ec_regs.specs.SyncMan.{guards_outputs}
use Rattle.ec_ring.specs.Ring.{RingState, controllers, line_of}
use Rattle.ec_applications.proofs.Laws.{told_controller}
use Rattle.ec_applications.specs.Acting.{acted, behaved, is_manager, low_bytes, one_acted, placed, put}
use Rattle.ec_applications.specs.Acting.{put_number, put_shown, slave_behaved}
use Rattle.ec_applications.specs.Links.{controller_told, dl_status, first_told, place_told, slave_told}
use Rattle.ec_applications.specs.declared.application.Application.{Application}
use Rattle.ec_applications.specs.declared.application.Behaviour.{Behaviour}
use Rattle.ec_applications.specs.declared.application.Behaviour.TheVariants.{Mirror, Count}
use Rattle.ecat_served.specs.History.{AreControllers}
use Rattle.ecat_served.proofs.ByteLemmas.{counted, piece}
use Rattle.ecat_served.proofs.EachLemmas.{each_at}

-- ---- one controller

no_fault : (o : Option AreaFault) → is_none o ≡ true → o ≡ None
no_fault None is = refl
no_fault (Some f) is = absurd (let no : false ≡ true = is in cc)

either : (b : Bool) (c d : ControllerState) → IsController c → (b ≡ true → IsController d)
    → IsController (if b then d else c)
either true c d is done = done refl
either false c d is done = is

put_is : (c : ControllerState) (i : ℕ) (bytes : List ℕ) → IsController c → AreBytes bytes
    → IsController (put c i bytes)
put_is c i bytes is are =
    let fault : Option AreaFault = put_inputs_fault (sync_manager_at c.memory i) bytes in
    either (is_none fault) c (with_inputs c i bytes) is
    (λ fits. inputs_controller c i bytes is are (no_fault fault fits))

seen_is : (c : ControllerState) (i : ℕ) (b : Bool) (seen : List ℕ) → IsController c → AreBytes seen
    → IsController (put_shown c i (if b then Some seen else None))
seen_is c i true seen is are = put_is c i seen is are
seen_is c i false seen is are = is

behaved_is : (times : ℕ) (does : Behaviour) (c : ControllerState) → IsController c
    → IsController (behaved times does c)
behaved_is times (Mirror inputs outputs) c is =
    let s : SyncMan = sync_manager_at c.memory outputs in
    let from : ℕ = s.start - PROCESS_MEMORY in
    either (is_manager inputs && is_manager outputs) c (put_shown c inputs (outputs_of c outputs)) is
    (λ _. seen_is c inputs (guards_outputs s) (shown_area s c.shown) is
    (piece from (from + s.length) c.shown is.shown))
behaved_is times (Count inputs) c is =
    let n : ℕ = (sync_manager_at c.memory inputs).length in
    either (is_manager inputs) c (put_number c inputs times) is
    (λ _. put_is c inputs (low_bytes n times) is (counted n times (PROCESS_MEMORY_SIZE - 8)))

told_is : (status : ℕ) (c : ControllerState) → IsController c → IsController (controller_told status c)
told_is status c is = told_controller status c is

-- ---- a line

set_is : (ss : List SlaveState) (k : ℕ) (s : SlaveState) → AreControllers (controllers ss)
    → IsController s.controller → AreControllers (controllers (slice_set ss k s))
set_is [] k s all is = tt
set_is (x ∷ ss) zero s all is = (is, all.1)
set_is (x ∷ ss) (suc k) s all is = (all.0, set_is ss k s all.1 is)

placed_is : (times : ℕ) (one : Application) (r : RingState) (found : Option SlaveState)
    → slice_get r.slaves one.place ≡ found → AreControllers (line_of r)
    → AreControllers (line_of (placed times one r found))
placed_is times one r None at all = all
placed_is times one r (Some s) at all =
    set_is r.slaves one.place (slave_behaved times one.behaviour s) all
    (behaved_is times one.behaviour s.controller (each_at r.slaves one.place s all at))

pub acted_is : (times : ℕ) (all : List Application) (r : RingState) → AreControllers (line_of r)
    → AreControllers (line_of (acted times all r))
acted_is times [] r are = are
acted_is times (one ∷ more) r are =
    acted_is times more (one_acted times one r)
    (placed_is times one r (slice_get r.slaves one.place) refl are)

place_is : (place status : ℕ) (r : RingState) (found : Option SlaveState)
    → slice_get r.slaves place ≡ found → AreControllers (line_of r)
    → AreControllers (line_of (place_told place status r found))
place_is place status r None at all = all
place_is place status r (Some s) at all =
    set_is r.slaves place (slave_told status s) all
    (told_is status s.controller (each_at r.slaves place s all at))

-- told of its links
pub told_line_is : (is_up : ℕ → Bool) (n : ℕ) (r : RingState) → AreControllers (line_of r)
    → AreControllers (line_of (first_told is_up n r))
told_line_is is_up zero r are = are
told_line_is is_up (suc k) r are =
    let before : RingState = first_told is_up k r in
    place_is k (dl_status (is_up k) (is_up (suc k))) before (slice_get before.slaves k) refl
    (told_line_is is_up k r are)
