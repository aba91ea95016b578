-- The trips of a cycle over a line, one after the other; and what they would leave if every controller were
-- passed once.
use Rattle.std.specs.Prelude.{◌≡◌, ◌+◌, ◌%◌, false, List, [], ◌∷◌, map, sum_by}
use Rattle.std.specs.List.{AllByRecursion}
use Rattle.ec_wire.specs.Datagram.{DatagramRecord}
use Rattle.ec_esc.specs.State.{ControllerState}
use Rattle.ec_line.specs.Accepted.{AcceptsAll}
use Rattle.ec_line.specs.After.{Entry, after_frame}
use Rattle.ec_line.specs.Answered.{AnsweredFrame}
use Rattle.ec_line.specs.Claims.{gain}
use Rattle.ec_line.specs.Fit.{IsFitLine}
use Rattle.ec_line.specs.Memory.{reached_after}
use Rattle.ec_line.specs.Request.{OnWay}
use Rattle.ec_line.specs.Trip.{Trip, passed, joined_of, visited}

-- the joined frame of each trip, and the line in the end
pub record TripsRun : Type 0 where
  pub joined : List (List DatagramRecord)
  pub line : List ControllerState

unfoldable pub trips_run : List Trip → List ControllerState → TripsRun
trips_run [] line = record { joined = []; line = line }
trips_run (t ∷ ts) line =
    let p = passed t line in
    let rest = trips_run ts p.line
    in record { joined = joined_of t p ∷ rest.joined; line = rest.line }

-- each datagram of each trip is one of its request, and each controller accepts all
pub record TripsReady (ts : List Trip) (line : List ControllerState) : Type 0 where
  pub fit : IsFitLine line
  pub accepts : AllByRecursion (λ t. AllByRecursion (AcceptsAll t.entries) line) ts
  pub entries : AllByRecursion (λ t. AllByRecursion (λ e. OnWay e.request e.sent) t.entries) ts

-- ---- what comes back

-- each frame was answered by some controllers, by trip
abbrev pub AnsweredTrips : List Trip → (Trip → List ControllerState) → List (List DatagramRecord) → Type 0
AnsweredTrips [] who [] = Unit {0}
AnsweredTrips (t ∷ ts) who (g ∷ gs) = AnsweredFrame t.entries (who t) g × AnsweredTrips ts who gs
AnsweredTrips _ who _ = ⊥

-- the counters of a joined frame have moved as the whole line counts
abbrev pub CountsWhole : List Entry → List ControllerState → List DatagramRecord → Type 0
CountsWhole [] line [] = Unit {0}
CountsWhole (e ∷ es) line (g ∷ gs) =
    (g.counter ≡ (e.sent.counter + sum_by (gain e.request) line) % 65536) × CountsWhole es line gs
CountsWhole _ line _ = ⊥

abbrev pub CountsWholeAll : List Trip → List ControllerState → List (List DatagramRecord) → Type 0
CountsWholeAll [] line [] = Unit {0}
CountsWholeAll (t ∷ ts) line (g ∷ gs) = CountsWhole t.entries line g × CountsWholeAll ts line gs
CountsWholeAll _ line _ = ⊥

-- ---- what is left

-- every controller after every trip, each passed once
abbrev pub after_trips : List Trip → List ControllerState → List ControllerState
after_trips [] line = line
after_trips (t ∷ ts) line = after_trips ts (map (after_frame t.entries) line)

-- after those trips of which a copy reached it, each once
abbrev pub reached_trips : List Trip → List ControllerState → List ControllerState
reached_trips [] line = line
reached_trips (t ∷ ts) line = reached_trips ts (reached_after (after_frame t.entries) t.front t.back line)

-- as often as the copies of each trip passed it
abbrev pub visited_trips : List Trip → List ControllerState → List ControllerState
visited_trips [] line = line
visited_trips (t ∷ ts) line = visited_trips ts (visited t line)

-- ---- trips that pass everybody once

-- both copies come back, and where one ends the other begins
pub record IsWholeTrip (t : Trip) : Type 0 where
  pub meet : t.front ≡ t.back
  pub came_a : t.lost_a ≡ false
  pub came_b : t.lost_b ≡ false
