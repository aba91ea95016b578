-- A trip of a frame under its numbers over a served line is one over a line that moves: the numbers go
-- through.
use Rattle.std.specs.Prelude.{◌≡◌, ℕ, false, List, [], ◌∷◌, length, Option, refl}
use Rattle.std.specs.List.{AllByRecursion}
use Rattle.std.proofs.Common.{ap, subst, ◌∙◌}
use Rattle.ec_wire.specs.Datagram.{DatagramRecord}
use Rattle.ec_esc.specs.State.{ControllerState, IsController}
use Rattle.ec_line.specs.After.{Entry}
use Rattle.ec_line.specs.Answered.{sent_of}
use Rattle.ec_line.specs.Moving.{Visit, AllMove, copy_a, copy_b, when_a, when_b}
use Rattle.ec_line.specs.Trip.{Trip, PassedLine}
use Rattle.ec_ring.specs.Travel.{trip_of}
use Rattle.ec_ring.specs.Walk.{is_circulating}
use Rattle.ec_ring.specs.declared.weather.Weather.{Weather}
use Rattle.ec_number.specs.Number.{carrying, numbered, number_a, number_b, with_number}
use Rattle.ec_seal.specs.Moving.{moving_back, numbered_copy_a, numbered_copy_b}
use Rattle.ecat_served.specs.Trips.{IsServedTrip, IsVisited, Traffic, came_served, sealed}
use Rattle.ecat_served.proofs.PlainLemmas.{Still, visited_length}
use Rattle.ecat_served.proofs.TripLemmas.{Visited, trip_visited}

-- ---- numbers go through

-- each copy of a trip comes back with its number behind it, and leaves the line as the copy of the frame does
abbrev pub GoThroughA : Type 0
GoThroughA = (n : ℕ) (t : Trip) (vs : List Visit) → AllByRecursion IsController (when_a vs)
    → numbered_copy_a n t vs
    ≡ record { frame = with_number false (number_a n) (copy_a t vs).frame; line = (copy_a t vs).line }

abbrev pub GoThroughB : Type 0
GoThroughB = (n : ℕ) (t : Trip) (vs : List Visit) → AllByRecursion IsController (when_b vs)
    → numbered_copy_b n t vs
    ≡ record { frame = with_number t.turned (number_b n) (copy_b t vs).frame; line = (copy_b t vs).line }

numbered_still : (n : ℕ) (ds : List DatagramRecord) → is_circulating ds ≡ false
    → is_circulating (numbered n ds) ≡ false
unfolding carrying
numbered_still n [] still = refl
numbered_still n (d ∷ ds) still = still

-- ---- one trip

pub record SealedTrip (n : ℕ) (f : List Entry) (w : Weather) (size : ℕ) (line : List ControllerState)
    (got : Traffic) (later : List ControllerState) : Type 0 where
  pub visits : List Visit
  pub size_is : length later ≡ size
  pub is : IsVisited (trip_of w f size) line got later visits
  pub at_a : AllByRecursion IsController (when_a visits)
  pub at_b : AllByRecursion IsController (when_b visits)
  pub came : came_served w got ≡ moving_back n (trip_of w f size) visits

pub sealed_trip : GoThroughA → GoThroughB → (n : ℕ) (f : List Entry) (w : Weather)
    (line later : List ControllerState) (got : Traffic) → Still f → IsServedTrip (sealed n f) w line got later
    → SealedTrip n f w (length line) line got later
sealed_trip through_a through_b n f w line later got still served =
    let found =
    trip_visited (sealed n f) w line later got (numbered_still (number_b n) (sent_of f) still) served in
    let vs : List Visit = found.0 in
    let v : Visited (sealed n f) w (length line) line got later vs = found.1 in
    let t : Trip = trip_of w f (length line) in
    record {
      visits = vs;
      size_is = visited_length (sealed n f) w (length line) line later got vs v;
      is = record {
        moving = record {
          starts = v.before;
          moves = subst (λ (x : PassedLine). AllMove vs x.line (copy_b t vs).line)
              (through_a n t vs v.controllers_a)
              (subst (λ (x : PassedLine). AllMove vs (numbered_copy_a n t vs).line x.line)
              (through_b n t vs v.controllers_b) v.moves);
        };
        left = v.left;
        met = v.met;
      };
      at_a = v.controllers_a;
      at_b = v.controllers_b;
      came = ap (λ (o : Option (List DatagramRecord)). record { a = o; b = (came_served w got).b }) v.came_a
          ∙ ap (λ (o : Option (List DatagramRecord)).
          record { a = (moving_back n t vs).a; b = o }) v.came_b;
    }

pub numbered_trip : GoThroughA → GoThroughB → (n : ℕ) (f : List Entry) (w : Weather)
    (line later : List ControllerState) (got : Traffic) → Still f → IsServedTrip (sealed n f) w line got later
    → (vs : List Visit) × IsVisited (trip_of w f (length line)) line got later vs
    × (came_served w got ≡ moving_back n (trip_of w f (length line)) vs)
numbered_trip through_a through_b n f w line later got still served =
    let trip = sealed_trip through_a through_b n f w line later got still served in
    (trip.visits, trip.is, trip.came)
