-- A broadcast read of AL status over a line that tells one state: each controller is in it.
use Rattle.std.proofs.Common.{◌≡◌, ◌≤◌, true, eqb, ◌&&◌, List, [], ◌∷◌, length, get_or, refl, sym, ap, ◌∙◌}
use Rattle.std.proofs.Common.{arith}
use Rattle.std.specs.List.{AllByRecursion}
use Rattle.std.proofs.lemmas.Bool.{and_parts, eqb-true}
use Rattle.ec_regs.proofs.Laws.{each-map}
use Rattle.ec_wire.specs.Datagram.{DatagramRecord, ado_of}
use Rattle.ec_wire.specs.declared.command.Command.TheVariants.{Brd}
use Rattle.ec_esc.specs.Pass.{frame_pass, pass}
use Rattle.ec_esc.specs.State.{ControllerState, IsController}
use Rattle.ec_line.specs.Trip.{line_pass}
use Rattle.ecat_trips.specs.Copies.{moved}
use Rattle.ecat_told.specs.Known.{first_of, is_one_state, tells_states}
use Rattle.ecat_told.specs.Journeys.{IsLine, IsSent}
use Rattle.ecat_told.proofs.CountedLemmas.{first_some}
use Rattle.ecat_told.proofs.LineLemmas.{came, came_moved, came_size, gains}
use Rattle.ecat_told.proofs.PassLemmas.{HasMemory, controller_memory}
use Rattle.ecat_told.proofs.StatesLemmas.{AreIn, all_in, all_zero, first_is}

-- a frame of one datagram behind a line
one_came : (cs : List ControllerState) (d : DatagramRecord) → (line_pass cs (d ∷ [])).frame ≡ came cs d ∷ []
unfolding line_pass frame_pass came
one_came [] d = refl
one_came (c ∷ cs) d = one_came cs (pass c d).datagram

-- all are in the state that it tells
pub states_heard : (line : List ControllerState) (d c : DatagramRecord) → IsLine line → IsSent d
    → d.command ≡ Brd → (line_pass line (d ∷ [])).frame ≡ c ∷ [] → tells_states (length line) d c ≡ true
    → AllByRecursion (λ (x : ControllerState). get_or x.memory 304 0 ≡ first_of c.payload) line
unfolding AreIn
states_heard line d c is sent command back tells =
    let same : c ≡ came line d = (let both = sym back ∙ one_came line d in cc) in
    let parts = and_parts (eqb (ado_of d.address) 304 && eqb (moved d c) (length line))
    (is_one_state (first_of c.payload)) tells in
    let first = and_parts (eqb (ado_of d.address) 304) (eqb (moved d c) (length line)) parts.0 in
    let counted : gains line d ≡ length line =
    sym (came_moved line d sent.counter is.few) ∙ ap (moved d) (sym same)
    ∙ eqb-true (moved d c) (length line) first.1 in
    let some : 1 ≤ length (came line d).payload =
    first_some (came line d).payload (ap (λ (x : DatagramRecord). is_one_state (first_of x.payload))
    (sym same) ∙ parts.1) in
    let size = came_size line d in
    all_in (first_of c.payload) (came line d).payload line
    (each-map IsController HasMemory line controller_memory is.controllers) is.states parts.1
    (ap (λ (x : DatagramRecord). first_of x.payload) same ∙ first_is (came line d).payload)
    (all_zero line d 304
    (record {
      command = command;
      place = eqb-true (ado_of d.address) 304 first.0;
      some = omega
          (arith, some, size);
    })
    counted)
