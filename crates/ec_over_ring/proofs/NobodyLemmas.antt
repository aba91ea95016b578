-- A question to a station that no slave of a ring has.
use Rattle.std.proofs.Common.{◌≡◌, ℕ, Bool, true, false, cond, List, [], ◌∷◌, ◌++◌, length, take, drop}
use Rattle.std.proofs.Common.{refl, sym, ap, ◌∙◌, subst, None, Some, Result}
use Rattle.std.specs.Prelude.{is_none}
use Rattle.std.specs.List.{AllByRecursion}
use Rattle.std.proofs.lemmas.List.{take-append-drop}
use Rattle.ec_regs.proofs.Laws.{each-take, each-drop}
use Rattle.ec_wire.specs.Datagram.{DatagramRecord}
use Rattle.ec_esc.specs.State.{ControllerState}
use Rattle.ec_app.specs.State.{SlaveState}
use Rattle.ec_line.specs.Trip.{Passed, PassedLine}
use Rattle.ec_ring.specs.Links.{IsOnlyDown}
use Rattle.ec_ring.specs.Reach.{front, arrival_a, arrival_b, turns}
use Rattle.ec_ring.specs.Ring.{RingState, stepped, line_of, with_line}
use Rattle.ec_ring.specs.Travel.{travelled, Travelled}
use Rattle.ec_ring.specs.Weather.{calm}
use Rattle.ec_ring.specs.declared.links.Links.{Links}
use Rattle.ec_ring.specs.declared.port.PortFault.{PortFault}
use Rattle.ec_ring.specs.declared.weather.Came.{Came}
use Rattle.ec_ring.proofs.Laws.{with_controllers-controllers, length-controllers, front-is-back}
use Rattle.ec_master.specs.Ports.{came_or}
use Rattle.ec_master.specs.RingTrips.{RingTrips}
use Rattle.ec_master.specs.Travelled.{AtMostOneDown}
use Rattle.ec_services.specs.Ask.{Answer, Asks, Brings}
use Rattle.ec_over_ring.specs.Question.{IsByStation, IsOther, Tells}
use Rattle.ec_over_ring.proofs.LineLemmas.{IsUnderway, IsPassed, others_pass, turned}
use Rattle.ec_over_ring.proofs.TripLemmas.{OneBrings, first_copy, second_copy, second_others}
use Rattle.ec_over_ring.proofs.WayLemmas.{both, first_brings, travelled_pieces, way_of, came_back}
use Rattle.ec_over_ring.proofs.QuestionLemmas.{told, underway_of}

-- copy A passes others
first_others : (m : ℕ) (line : List ControllerState) (d : DatagramRecord) → IsUnderway d
    → AllByRecursion (IsOther d) line → first_copy m line d ≡ record { frame = d ∷ []; line = line }
first_others m line d asked others =
    ap (λ (p : PassedLine). record { frame = p.frame; line = p.line ++ drop m line })
    (others_pass d (take m line) asked (each-take (IsOther d) m line others))
    ∙ ap (λ (xs : List ControllerState). record { frame = d ∷ []; line = xs }) (take-append-drop m line)

-- and so does copy B
both_others : (m : ℕ) (b : Bool) (line : List ControllerState) (d : DatagramRecord) → IsUnderway d
    → AllByRecursion (IsOther d) line
    → both m b line d ≡ record { a = d ∷ []; b = turned (cond b true d.circulating) d ∷ []; line = line }
unfolding both
both_others m b line d asked others =
    ap (λ (a : PassedLine). let z = second_copy m b a.line d in
    record { a = a.frame; b = z.frame; line = z.line }) (first_others m line d asked others)
    ∙ ap (λ (z : PassedLine). record { a = d ∷ []; b = z.frame; line = z.line })
    (second_others m b line d asked (each-drop (IsOther d) m line others))

-- the datagram as it was sent is a pass that does nothing
sent_passed : (d : DatagramRecord) → IsUnderway d → IsPassed d d
sent_passed d asked = record { command = refl; index = refl; address = refl; size = refl; underway = asked }

-- what a trip leaves that passes others alone
pub record IsIdle (d : DatagramRecord) (line : List ControllerState) (t : Travelled) : Type 0 where
  pub line_is : t.line ≡ line
  pub brings : OneBrings d d (came_or t.came.a (d ∷ [])) (came_or t.came.b (d ∷ []))

idle_way : (lost_a lost_b : Bool) (m : ℕ) (b : Bool) (line : List ControllerState) (d : DatagramRecord)
    → IsUnderway d → AllByRecursion (IsOther d) line → IsIdle d line (way_of lost_a lost_b m b line d)
idle_way lost_a lost_b m b line d asked others =
    subst (λ (p : Passed). IsIdle d line (came_back lost_a lost_b p)) (sym
    (both_others m b line d asked others))
    (record { line_is = refl; brings = idle_brings lost_a lost_b })
  where
    idle_brings : (x y : Bool) → OneBrings d d (came_or (cond x None (Some (d ∷ []))) (d ∷ []))
        (came_or (cond y None (Some (turned (cond b true d.circulating) d ∷ []))) (d ∷ []))
    idle_brings true y = first_brings d d false y (cond b true d.circulating) refl
    idle_brings false y = first_brings d d false y (cond b true d.circulating) refl

idle_trip : (links : Links) (k : ℕ) (d : DatagramRecord) (line : List ControllerState)
    → IsOnlyDown links (length line) k → d.circulating ≡ false → IsUnderway d
    → AllByRecursion (IsOther d) line
    → IsIdle d line (travelled (calm links) (d ∷ []) line)
idle_trip links k d line one still asked others =
    let n : ℕ = length line in
    subst (λ (t : Travelled). IsIdle d line t)
    (sym (travelled_pieces links d line still (front-is-back links n k one)))
    (idle_way (is_none (arrival_a links n)) (is_none (arrival_b links n)) (front links n)
    (turns links n) line d
    asked others)

-- ---- the law

-- what a question comes to that no slave is meant by
pub record IsUnanswered (d : DatagramRecord) (r : RingState) (answer : Answer)
    (later : RingState) : Type 0 where
  pub tells : Tells d answer
  pub ring : later ≡ stepped r

pub unanswered : (d : DatagramRecord) (r : RingState) (answer : Answer) (later : RingState)
    → AtMostOneDown r → IsByStation d → AllByRecursion (IsOther d) (line_of r)
    → Asks RingTrips r d answer later → IsUnanswered d r answer later
unanswered d r answer later down asked others asks =
    let line : List ControllerState = line_of r in
    let t : Travelled = travelled (calm r.links) (d ∷ []) line in
    let size : length r.slaves ≡ length line = sym (length-controllers r.slaves) in
    let idle : IsIdle d line t =
    idle_trip r.links down.0 d line (subst (λ (n : ℕ). IsOnlyDown r.links n down.0) size down.1)
    asked.circulating (underway_of d asked) others in
    record {
      tells = told d d t.came answer (sent_passed d (underway_of d asked)) asked.counter idle.brings
          (subst (λ (x : Result Came PortFault). Brings d x answer) asks.made.0 asks.brings);
      ring = asks.made.1
          ∙ ap (λ (cs : List ControllerState). stepped (with_line r cs)) idle.line_is
          ∙ ap (λ (ss : List SlaveState). stepped (record r { slaves = ss }))
          (with_controllers-controllers r.slaves);
    }
