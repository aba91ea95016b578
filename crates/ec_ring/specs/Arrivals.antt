-- A frame's trip, with the port where each copy arrived.
use Rattle.std.specs.Prelude.{◌≡◌, Bool, if◌then◌else◌, Option, None, Some, List, Result, Ok, Err}
use Rattle.std.specs.Option.{option_map}
use Rattle.ec_wire.specs.Datagram.{DatagramRecord}
use Rattle.ec_esc.specs.State.{ControllerState}
use Rattle.ec_ring.specs.Ring.{RingState, line_of, with_line}
use Rattle.ec_ring.specs.Travel.{travelled}
use Rattle.ec_ring.specs.Walk.{Walked, walked_from_a, walked_from_b}
use Rattle.ec_ring.specs.Weather.{calm}
use Rattle.ec_ring.specs.declared.arrivals.Arrival.{Arrival}
use Rattle.ec_ring.specs.declared.arrivals.Arrivals.{Arrivals}
use Rattle.ec_ring.specs.declared.port.Port.{Port}
use Rattle.ec_ring.specs.declared.port.PortFault.{PortFault}
use Rattle.ec_ring.specs.declared.weather.Came.{Came}
use Rattle.ec_ring.specs.declared.weather.Weather.{Weather}

-- a copy where it arrived; none where it was lost, by the links or by the weather on its last hop
abbrev pub arrival_of : Bool → Walked → Option Arrival
arrival_of lost w =
    if lost then None
    else option_map (λ (x : List DatagramRecord × Port). record { frame = x.0; at = x.1 }) w.arrived

-- a copy, as one that arrived at a port
abbrev pub arrived_at : Port → List DatagramRecord → Arrival
arrived_at at frame = record { frame = frame; at = at }

abbrev pub arrivals_a_first : Weather → List DatagramRecord → List ControllerState → Arrivals
arrivals_a_first w sent line =
    let a = walked_from_a w.a sent line in
    let b = walked_from_b w.b sent a.line
    in record { a = arrival_of w.lost_a a; b = arrival_of w.lost_b b }

abbrev pub arrivals_b_first : Weather → List DatagramRecord → List ControllerState → Arrivals
arrivals_b_first w sent line =
    let b = walked_from_b w.b sent line in
    let a = walked_from_a w.a sent b.line
    in record { a = arrival_of w.lost_a a; b = arrival_of w.lost_b b }

-- both copies where they arrived
unfoldable pub arrivals_of : Weather → List DatagramRecord → List ControllerState → Arrivals
arrivals_of w sent line = if w.b_first then arrivals_b_first w sent line else arrivals_a_first w sent line

-- the copies, wherever they arrived
abbrev pub copies_of : Arrivals → Came
copies_of x = record {
  a = option_map (λ (y : Arrival). y.frame) x.a;
  b = option_map (λ (y : Arrival). y.frame) x.b;
}

-- the same of a trip in which a port may have failed
abbrev pub copies_came : Result Arrivals PortFault → Result Came PortFault
copies_came (Err failed) = Err failed
copies_came (Ok arrivals) = Ok (copies_of arrivals)

-- a ring as ports that say where copies arrived: a frame travels over it under its own links, copy A first
abbrev pub RingArrivals : RingState → List DatagramRecord → Result Arrivals PortFault → RingState → Type 0
RingArrivals before sent came later =
    (came ≡ Ok (arrivals_of (calm before.links) sent (line_of before)))
    × (later ≡ with_line before (travelled (calm before.links) sent (line_of before)).line)
