-- The frames of a work travel over a ring, one after the other.
use Rattle.std.specs.Prelude.{ℕ, ◌-◌, List, [], ◌∷◌, ◌++◌, length, take, drop}
use Rattle.ec_wire.specs.Datagram.{DatagramRecord}
use Rattle.ec_app.specs.State.{SlaveState}
use Rattle.ec_line.specs.After.{Entry}
use Rattle.ec_line.specs.Run.{TripsRun, trips_run}
use Rattle.ec_line.specs.Trip.{Trip}
use Rattle.ec_map.specs.Item.{ItemRecord}
use Rattle.ec_ring.specs.Links.{IsOnlyDown}
use Rattle.ec_ring.specs.Reach.{front, back}
use Rattle.ec_ring.specs.Ring.{RingState, line_of, with_line}
use Rattle.ec_ring.specs.Travel.{trip_of}
use Rattle.ec_ring.specs.Weather.{calm}
use Rattle.ec_ring.specs.declared.links.Links.{Links}
use Rattle.ec_ring.specs.declared.weather.Weather.{Weather}
use Rattle.ec_master.specs.Cut.{concat, frames_of}

-- each frame's trip over a line of n slaves: under its own weather, and past the list of weathers under the
-- line's own links
unfoldable pub trips_of : List Weather → Links → ℕ → List (List Entry) → List Trip
trips_of ws links n [] = []
trips_of [] links n (f ∷ fs) = trip_of (calm links) f n ∷ trips_of [] links n fs
trips_of (w ∷ ws) links n (f ∷ fs) = trip_of w f n ∷ trips_of ws links n fs

-- the weather of each frame: its own, and past the list of weathers that of the line's own links
unfoldable pub weathers_of : List Weather → Links → List (List Entry) → List Weather
weathers_of ws links [] = []
weathers_of [] links (f ∷ fs) = calm links ∷ weathers_of [] links fs
weathers_of (w ∷ ws) links (f ∷ fs) = w ∷ weathers_of ws links fs

-- the weathers of the frames that a work sends, as many as there are frames
abbrev pub weathers_under : List Weather → RingState → List ItemRecord → List Weather
weathers_under ws r items = weathers_of ws r.links (frames_of items)

-- the trips of a work, and what they come to: the joined frames, and the line afterwards
abbrev pub trips_under : List Weather → RingState → List ItemRecord → List Trip
trips_under ws r items = trips_of ws r.links (length r.slaves) (frames_of items)

abbrev pub run_under : List Weather → RingState → List ItemRecord → TripsRun
run_under ws r items = trips_run (trips_under ws r items) (line_of r)

-- the answer of each item
abbrev pub answers_under : List Weather → RingState → List ItemRecord → List DatagramRecord
answers_under ws r items = concat (run_under ws r items).joined

-- the ring afterwards
abbrev pub ring_under : List Weather → RingState → List ItemRecord → RingState
ring_under ws r items = with_line r (run_under ws r items).line

-- of a ring's links none is down but perhaps one
abbrev pub AtMostOneDown : RingState → Type 0
AtMostOneDown r = (k : ℕ) × IsOnlyDown r.links (length r.slaves) k

-- the slaves that a copy reaches under a ring's own links
abbrev pub reached : RingState → List SlaveState
reached r = take (front r.links (length r.slaves)) r.slaves ++ drop (back r.links (length r.slaves)) r.slaves

-- and those between, which no copy reaches
abbrev pub unreached : RingState → List SlaveState
unreached r =
    let n = length r.slaves
    in take (back r.links n - front r.links n) (drop (front r.links n) r.slaves)
