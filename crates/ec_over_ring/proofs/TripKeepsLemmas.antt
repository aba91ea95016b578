-- Any trip of any frame over a ring leaves it a ring of as many slaves under the same links.
use Rattle.std.proofs.Common.{◌≡◌, ℕ, zero, suc, Bool, true, false, cond, List, [], ◌∷◌, length, map}
use Rattle.std.proofs.Common.{take, drop, get_or, Option, None, Some, Result, refl, sym, ◌∙◌, subst, ◌≤◌}
use Rattle.std.specs.Prelude.{bit_and, bit_or}
use Rattle.std.specs.List.{AllByRecursion}
use Rattle.std.proofs.lemmas.List.{length-map, length-set}
use Rattle.ec_regs.specs.Bits.{AreBytes, with_bits}
use Rattle.ec_regs.specs.SyncMan.{status_address}
use Rattle.ec_regs.specs.declared.registers.TheConstants.{MEMORY_SIZE}
use Rattle.ec_regs.proofs.Laws.{AreBytes-with_bits, each-append, each-drop, each-take, length-with_bits}
use Rattle.ec_wire.specs.Datagram.{DatagramRecord}
use Rattle.ec_esc.specs.State.{ControllerState, IsController}
use Rattle.ec_esc.specs.Writing.{settled, with_emptied, with_filled}
use Rattle.ec_esc.specs.Pass.{Effect, effect, frame_pass, pass}
use Rattle.ec_esc.proofs.Laws.{length-shown_after}
use Rattle.ec_line.specs.Trip.{back_pass, circulated, front_pass, line_pass}
use Rattle.ec_app.specs.Slave.{step}
use Rattle.ec_app.specs.State.{SlaveState}
use Rattle.ec_ring.specs.Links.{IsOnlyDown}
use Rattle.ec_ring.specs.Reach.{back, front, turns}
use Rattle.ec_ring.specs.Ring.{RingState, line_of, with_controllers}
use Rattle.ec_ring.specs.Travel.{travelled}
use Rattle.ec_ring.specs.Walk.{Walked, walked_from_a, walked_from_b}
use Rattle.ec_ring.specs.Weather.{calm}
use Rattle.ec_ring.specs.declared.links.Links.{Links}
use Rattle.ec_ring.specs.declared.links.TheConstants.{MAX_SLAVES}
use Rattle.ec_ring.specs.declared.port.PortFault.{PortFault}
use Rattle.ec_ring.specs.declared.weather.Came.{Came}
use Rattle.ec_ring.proofs.Laws.{length-with_controllers}
use Rattle.ec_master.specs.RingTrips.{RingTrips}
use Rattle.ec_run.specs.Travels.{IsWithin, Travels}
use Rattle.ec_over_ring.specs.Brought.{ReachesAll}
use Rattle.ec_over_ring.specs.Transfers.{IsSlave}
use Rattle.ec_over_ring.proofs.ControlLemmas.{bytes_settled, settled_size}
use Rattle.ec_over_ring.proofs.MailboxLemmas.{bytes_set, bytes_shown, clear_small, set_small}
use Rattle.ec_over_ring.proofs.TransferLemmas.{have_controllers, steps}

-- ---- one controller

filled_size : (mail : Option ℕ) (m : List ℕ) → length (with_filled mail m) ≡ length m
filled_size None m = refl
filled_size (Some i) m = length-set m (status_address i) (bit_or (get_or m (status_address i) 0) 8)

emptied_size : (mail : Option ℕ) (m : List ℕ) → length (with_emptied mail m) ≡ length m
emptied_size None m = refl
emptied_size (Some i) m = length-set m (status_address i) (bit_and (get_or m (status_address i) 0) 247)

filled_bytes : (mail : Option ℕ) (m : List ℕ) → AreBytes m → AreBytes (with_filled mail m)
filled_bytes None m are = are
filled_bytes (Some i) m are =
    let at : ℕ = status_address i in
    bytes_set m at (bit_or (get_or m at 0) 8) are (set_small (get_or m at 0) (are at))

emptied_bytes : (mail : Option ℕ) (m : List ℕ) → AreBytes m → AreBytes (with_emptied mail m)
emptied_bytes None m are = are
emptied_bytes (Some i) m are =
    let at : ℕ = status_address i in
    bytes_set m at (bit_and (get_or m at 0) 247) are (clear_small (get_or m at 0) (are at))

-- a pass of whatever datagram leaves a controller one
pub passed_controller : (c : ControllerState) (d : DatagramRecord) → IsController c
    → IsController (pass c d).state
unfolding pass
passed_controller c d controller =
    let e : Effect = effect d.command c d.address (length d.payload) in
    let new : List ℕ = with_bits c.memory d.payload e.writing.places in
    let memory : List ℕ = settled c.memory new in
    let size : length memory ≡ MEMORY_SIZE =
    settled_size c.memory new ∙ length-with_bits c.memory d.payload e.writing.places
    ∙ controller.memory_size in
    let bytes : AreBytes memory =
    bytes_settled c.memory new (AreBytes-with_bits c.memory d.payload e.writing.places) in
    let filled : List ℕ = with_filled e.writing.mail memory in
    record {
      memory_size = emptied_size e.reading.mail filled ∙ filled_size e.writing.mail memory ∙ size;
      memory = emptied_bytes e.reading.mail filled (filled_bytes e.writing.mail memory bytes);
      shown_size = length-shown_after _ _ _ memory c.shown ∙ controller.shown_size;
      shown = bytes_shown _ _ _ memory c.shown bytes controller.shown;
    }

framed_controller : (c : ControllerState) (frame : List DatagramRecord) → IsController c
    → IsController (frame_pass c frame).state
unfolding frame_pass
framed_controller c [] controller = controller
framed_controller c (d ∷ ds) controller =
    framed_controller (pass c d).state ds (passed_controller c d controller)

-- ---- the controllers of a line

abbrev pub AreControllers : List ControllerState → Type 0
AreControllers line = AllByRecursion IsController line

line_left : (line : List ControllerState) (frame : List DatagramRecord) → AreControllers line
    → AreControllers (line_pass line frame).line
unfolding line_pass
line_left [] frame are = tt
line_left (c ∷ cs) frame are =
    (framed_controller c frame are.0, line_left cs (frame_pass c frame).frame are.1)

front_left : (n : ℕ) (line : List ControllerState) (frame : List DatagramRecord) → AreControllers line
    → AreControllers (front_pass n line frame).line
front_left n line frame are =
    each-append IsController (line_pass (take n line) frame).line (drop n line)
    (line_left (take n line) frame (each-take IsController n line are)) (each-drop IsController n line are)

back_left : (n : ℕ) (line : List ControllerState) (frame : List DatagramRecord) → AreControllers line
    → AreControllers (back_pass n line frame).line
back_left n line frame are =
    each-append IsController (take n line) (line_pass (drop n line) frame).line
    (each-take IsController n line are) (line_left (drop n line) frame (each-drop IsController n line are))

pub walked_a_left : (links : Links) (frame : List DatagramRecord) (line : List ControllerState)
    → AreControllers line → AreControllers (walked_from_a links frame line).line
unfolding walked_from_a
walked_a_left links frame line are = front_left (front links (length line)) line frame are

either_walked : (b : Bool) (x y : Walked) → AreControllers x.line → AreControllers y.line
    → AreControllers (cond b x y).line
either_walked true x y first second = first
either_walked false x y first second = second

walked_b_left : (links : Links) (frame : List DatagramRecord) (line : List ControllerState)
    → AreControllers line → AreControllers (walked_from_b links frame line).line
unfolding walked_from_b
walked_b_left links frame line are =
    either_walked _ _ _ are
    (back_left (back links (length line)) line (cond (turns links (length line)) (circulated frame) frame)
    are)

pub travelled_left : (links : Links) (frame : List DatagramRecord) (line : List ControllerState)
    → AreControllers line → AreControllers (travelled (calm links) frame line).line
unfolding travelled
travelled_left links frame line are =
    walked_b_left links frame (walked_from_a links frame line).line (walked_a_left links frame line are)

-- ---- the slaves of a ring

slaves_left : (ss : List SlaveState) (cs : List ControllerState) → AllByRecursion IsSlave ss
    → AreControllers cs → AllByRecursion IsSlave (with_controllers ss cs)
slaves_left [] [] all are = tt
slaves_left [] (c ∷ cs) all are = tt
slaves_left (s ∷ ss) [] all are = all
slaves_left (s ∷ ss) (c ∷ cs) all are =
    (record { controller = are.0; values = all.0.values }, slaves_left ss cs all.1 are.1)

-- behind a trip each slave is still reached
pub trip_keeps : (before later : RingState) (sent : List DatagramRecord) (came : Result Came PortFault)
    → ReachesAll before → RingTrips before sent came later → ReachesAll later
trip_keeps before later sent came ring made =
    let line : List ControllerState = (travelled (calm before.links) sent (line_of before)).line in
    let left : List SlaveState = with_controllers before.slaves line in
    let size : length before.slaves ≡ length (map step left) =
    sym (length-map left step ∙ length-with_controllers before.slaves line) in
    let all : AllByRecursion IsSlave (map step left) =
    steps left (slaves_left before.slaves line ring.slaves.each
    (travelled_left before.links sent (line_of before) (have_controllers before.slaves ring.slaves.each))) in
    subst ReachesAll (sym made.1)
    (record {
      down = (
        ring.down.0,
        subst (λ (n : ℕ). IsOnlyDown before.links n ring.down.0) size ring.down.1,
      );
      slaves = record {
        limit = subst (λ (n : ℕ). n ≤ MAX_SLAVES) size ring.slaves.limit;
        each = all;
      };
    })

travels_keep : (n : ℕ) (before later : RingState) → ReachesAll before → Travels RingTrips n before later
    → ReachesAll later
unfolding Travels
travels_keep zero before later ring same = subst ReachesAll (sym same) ring
travels_keep (suc n) before later ring (sent, came, between, made, rest) =
    travels_keep n between later (trip_keeps before between sent came ring made) rest

-- and behind many
pub within_keeps : (most : ℕ) (before later : RingState) → ReachesAll before
    → IsWithin RingTrips most before later → ReachesAll later
within_keeps most before later ring within = travels_keep within.number before later ring within.travels
