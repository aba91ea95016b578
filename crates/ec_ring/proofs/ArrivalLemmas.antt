-- The copies of a trip that says where they arrived are those of the trip, each at the port of its reach.
use Rattle.std.specs.Prelude.{◌≡◌, ℕ, Bool, true, false, ◌&&◌, if◌then◌else◌, List, length, refl}
use Rattle.std.specs.Prelude.{Option, None, Some}
use Rattle.std.specs.Option.{option_map}
use Rattle.std.proofs.Common.{sym, ap, cond, ◌∙◌}
use Rattle.ec_esc.specs.State.{ControllerState}
use Rattle.ec_ring.specs.Arrivals.{arrival_of, arrivals_a_first, arrivals_b_first, arrivals_of, copies_of}
use Rattle.ec_ring.specs.Reach.{arrival_a, arrival_b, turns}
use Rattle.ec_ring.specs.Travel.{came_of, Travelled, with_a_first, with_b_first, travelled}
use Rattle.ec_ring.specs.Walk.{Walked, walked_from_a, walked_from_b, is_circulating}
use Rattle.ec_ring.specs.declared.arrivals.Arrival.{Arrival}
use Rattle.ec_ring.specs.declared.arrivals.Arrivals.{Arrivals}
use Rattle.ec_ring.specs.declared.links.Links.{Links}
use Rattle.ec_ring.specs.declared.port.Port.{Port}
use Rattle.ec_ring.specs.declared.weather.Weather.{Weather}
use Rattle.ec_ring.proofs.TravelLemmas.{length-walked_from_a, length-walked_from_b}
use Rattle.ec_wire.specs.Datagram.{DatagramRecord}

-- ---- the copies

abbrev pub at_port : List DatagramRecord × Port → Arrival
at_port x = record { frame = x.0; at = x.1 }

copy-of : (lost : Bool) (o : Option (List DatagramRecord × Port))
    → option_map (λ (y : Arrival). y.frame) (if lost then None else option_map at_port o)
    ≡ (if lost then None else option_map (λ (x : List DatagramRecord × Port). x.0) o)
copy-of true o = refl
copy-of false None = refl
copy-of false (Some x) = refl

copy : (lost : Bool) (w : Walked)
    → option_map (λ (y : Arrival). y.frame) (arrival_of lost w) ≡ came_of lost w
copy lost w = copy-of lost w.arrived

pub copies-arrivals_of : (w : Weather) (sent : List DatagramRecord) (line : List ControllerState)
    → copies_of (arrivals_of w sent line) ≡ (travelled w sent line).came
unfolding arrivals_of travelled
copies-arrivals_of w sent line =
    let P : Bool → Type 0 = λ b.
    copies_of (cond b (arrivals_b_first w sent line) (arrivals_a_first w sent line))
    ≡ (cond b (with_b_first w sent line) (with_a_first w sent line)).came in
    elim w.b_first as P [
      | true ↦
          let b : Walked = walked_from_b w.b sent line in
          let a : Walked = walked_from_a w.a sent b.line in
          let one = copy w.lost_a a in
          let two = copy w.lost_b b in
          cc
      | false ↦
          let a : Walked = walked_from_a w.a sent line in
          let b : Walked = walked_from_b w.b sent a.line in
          let one = copy w.lost_a a in
          let two = copy w.lost_b b in
          cc
    ]

-- ---- the ports

port-of : (lost : Bool) (frame : List DatagramRecord) (o : Option Port) (x : Arrival)
    → (if lost then None
    else option_map at_port (option_map (λ (port : Port). (frame, port)) o)) ≡ Some x
    → o ≡ Some x.at
port-of true frame o x is = absurd (cc)
port-of false frame None x is = absurd (cc)
port-of false frame (Some port) x is = let same : at_port (frame, port) ≡ x = cc in
    ap (λ (y : Arrival). Some y.at) same

pub at-a : (lost : Bool) (links : Links) (sent : List DatagramRecord) (line : List ControllerState)
    (x : Arrival)
    → arrival_of lost (walked_from_a links sent line) ≡ Some x
    → arrival_a links (length line) ≡ Some x.at
unfolding walked_from_a
at-a lost links sent line x is = port-of lost _ (arrival_a links (length line)) x is

-- where copy B is destroyed nothing arrives
port-unless : (destroyed lost : Bool) (frame : List DatagramRecord) (o : Option Port)
    (left line : List ControllerState) (x : Arrival)
    → arrival_of lost (if destroyed then record { arrived = None; line = line }
    else record { arrived = option_map (λ (port : Port). (frame, port)) o; line = left }) ≡ Some x
    → o ≡ Some x.at
port-unless true true frame o left line x is = absurd (cc)
port-unless true false frame o left line x is = absurd (cc)
port-unless false lost frame o left line x is = port-of lost frame o x is

pub at-b : (lost : Bool) (links : Links) (sent : List DatagramRecord) (line : List ControllerState)
    (x : Arrival)
    → arrival_of lost (walked_from_b links sent line) ≡ Some x
    → arrival_b links (length line) ≡ Some x.at
unfolding walked_from_b
at-b lost links sent line x is =
    let n : ℕ = length line in
    port-unless (turns links n && is_circulating sent) lost _ (arrival_b links n) _ line x is

pub arrivals_of-at_a : (w : Weather) (sent : List DatagramRecord) (line : List ControllerState) (x : Arrival)
    → (arrivals_of w sent line).a ≡ Some x
    → arrival_a w.a (length line) ≡ Some x.at
unfolding arrivals_of
arrivals_of-at_a w sent line x =
    let P : Bool → Type 0 = λ b.
    (cond b (arrivals_b_first w sent line) (arrivals_a_first w sent line)).a ≡ Some x
    → arrival_a w.a (length line) ≡ Some x.at in
    let b : Walked = walked_from_b w.b sent line in
    elim w.b_first as P [
      | true ↦ λ is. rw (length-walked_from_b w.b sent line) at (at-a w.lost_a w.a sent b.line x is)
      | false ↦ λ is. at-a w.lost_a w.a sent line x is
    ]

pub arrivals_of-at_b : (w : Weather) (sent : List DatagramRecord) (line : List ControllerState) (x : Arrival)
    → (arrivals_of w sent line).b ≡ Some x
    → arrival_b w.b (length line) ≡ Some x.at
unfolding arrivals_of
arrivals_of-at_b w sent line x =
    let P : Bool → Type 0 = λ b.
    (cond b (arrivals_b_first w sent line) (arrivals_a_first w sent line)).b ≡ Some x
    → arrival_b w.b (length line) ≡ Some x.at in
    let a : Walked = walked_from_a w.a sent line in
    elim w.b_first as P [
      | true ↦ λ is. at-b w.lost_b w.b sent line x is
      | false ↦ λ is. rw (length-walked_from_a w.a sent line) at (at-b w.lost_b w.b sent a.line x is)
    ]
