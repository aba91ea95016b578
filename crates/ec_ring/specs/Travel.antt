-- A frame's trip: two copies of it go over the line, one after the other, each under its own links.
use Rattle.std.specs.Prelude.{ℕ, Bool, ◌||◌, if◌then◌else◌, Option, None, Some, List, is_none}
use Rattle.std.specs.Option.{option_map}
use Rattle.ec_wire.specs.Datagram.{DatagramRecord}
use Rattle.ec_esc.specs.State.{ControllerState}
use Rattle.ec_line.specs.After.{Entry}
use Rattle.ec_line.specs.Trip.{Trip, Passed}
use Rattle.ec_ring.specs.Reach.{front, back, arrival_a, arrival_b, turns}
use Rattle.ec_ring.specs.Walk.{Walked, walked_from_a, walked_from_b}
use Rattle.ec_ring.specs.declared.port.Port.{Port}
use Rattle.ec_ring.specs.declared.weather.Came.{Came}
use Rattle.ec_ring.specs.declared.weather.Weather.{Weather}

-- the frame that came back; none where the copy was lost, by the links or by the weather on its last hop
abbrev pub came_of : Bool → Walked → Option (List DatagramRecord)
came_of lost w = if lost then None else option_map (λ (x : List DatagramRecord × Port). x.0) w.arrived

-- what came back, and the controllers behind both copies
pub record Travelled : Type 0 where
  pub came : Came
  pub line : List ControllerState

abbrev pub with_a_first : Weather → List DatagramRecord → List ControllerState → Travelled
with_a_first w sent line =
    let a = walked_from_a w.a sent line in
    let b = walked_from_b w.b sent a.line
    in record { came = record { a = came_of w.lost_a a; b = came_of w.lost_b b }; line = b.line }

abbrev pub with_b_first : Weather → List DatagramRecord → List ControllerState → Travelled
with_b_first w sent line =
    let b = walked_from_b w.b sent line in
    let a = walked_from_a w.a sent b.line
    in record { came = record { a = came_of w.lost_a a; b = came_of w.lost_b b }; line = a.line }

unfoldable pub travelled : Weather → List DatagramRecord → List ControllerState → Travelled
travelled w sent line = if w.b_first then with_b_first w sent line else with_a_first w sent line

-- ---- as a trip over pieces of the line

-- the trip of entries under a weather, over a line of n slaves
abbrev pub trip_of : Weather → List Entry → ℕ → Trip
trip_of w entries n = record {
  entries = entries;
  front = front w.a n;
  back = back w.b n;
  b_first = w.b_first;
  lost_a = w.lost_a || is_none (arrival_a w.a n);
  lost_b = w.lost_b || is_none (arrival_b w.b n);
  turned = turns w.b n;
}

-- what comes back of a trip, and the controllers behind it
abbrev pub as_trip : Trip → Passed → Travelled
as_trip t p = record {
  came = record { a = if t.lost_a then None else Some p.a; b = if t.lost_b then None else Some p.b };
  line = p.line;
}
