-- A trip of a plain frame over a served line is one over a line that moves.
use Rattle.std.specs.Prelude.{◌≡◌, ℕ, false, List, length, Option}
use Rattle.std.proofs.Common.{ap, sym, ◌∙◌}
use Rattle.std.proofs.lemmas.List.{length-map}
use Rattle.ec_wire.specs.Datagram.{DatagramRecord}
use Rattle.ec_esc.specs.State.{ControllerState}
use Rattle.ec_line.specs.After.{Entry}
use Rattle.ec_line.specs.Answered.{sent_of}
use Rattle.ec_line.specs.Moving.{Visit}
use Rattle.ec_line.specs.Trip.{Trip}
use Rattle.ec_ring.specs.Travel.{trip_of}
use Rattle.ec_ring.specs.Walk.{is_circulating}
use Rattle.ec_ring.specs.declared.weather.Weather.{Weather}
use Rattle.ecat_served.specs.Trips.{IsServedTrip, IsVisited, Sent, Traffic, came_moving, came_served, plain}
use Rattle.ecat_served.proofs.TripLemmas.{Visited, trip_visited}

abbrev pub Still : List Entry → Type 0
Still es = is_circulating (sent_of es) ≡ false

-- a line is as long behind a trip
pub visited_length : (sent : Sent) (w : Weather) (n : ℕ) (line later : List ControllerState) (got : Traffic)
    (vs : List Visit) → Visited sent w n line got later vs → length later ≡ length line
visited_length sent w n line later got vs v =
    ap (λ (l : List ControllerState). length l) (sym v.left) ∙ length-map vs (λ x. x.later)
    ∙ sym (length-map vs (λ x. x.before)) ∙ ap (λ (l : List ControllerState). length l) v.before

-- a trip over a line of n slaves
pub record Visits (f : List Entry) (w : Weather) (n : ℕ) (line : List ControllerState) (got : Traffic)
    (later : List ControllerState) : Type 0 where
  pub visits : List Visit
  pub size : length later ≡ n
  pub is : IsVisited (trip_of w f n) line got later visits
  pub came : came_served w got ≡ came_moving (trip_of w f n) visits

pub visits_plain : (f : List Entry) (w : Weather) (line later : List ControllerState) (got : Traffic)
    → Still f → IsServedTrip (plain f) w line got later → Visits f w (length line) line got later
visits_plain f w line later got still served =
    let found = trip_visited (plain f) w line later got still served in
    let vs : List Visit = found.0 in
    let v : Visited (plain f) w (length line) line got later vs = found.1 in
    let t : Trip = trip_of w f (length line) in
    record {
      visits = vs;
      size = visited_length (plain f) w (length line) line later got vs v;
      is = record {
        moving = record { starts = v.before; moves = v.moves };
        left = v.left;
        met = v.met;
      };
      came = ap (λ (o : Option (List DatagramRecord)). record { a = o; b = (came_served w got).b }) v.came_a
          ∙ ap (λ (o : Option (List DatagramRecord)).
          record { a = (came_moving t vs).a; b = o }) v.came_b;
    }

pub plain_trip : (f : List Entry) (w : Weather) (line later : List ControllerState) (got : Traffic)
    → Still f → IsServedTrip (plain f) w line got later
    → (vs : List Visit) × IsVisited (trip_of w f (length line)) line got later vs
    × (came_served w got ≡ came_moving (trip_of w f (length line)) vs)
plain_trip f w line later got still served =
    let v = visits_plain f w line later got still served in (v.visits, v.is, v.came)
