-- What becomes of a packet: of which trip it is, and which trips end by it.
use Rattle.std.specs.Prelude.{ℕ, ◌+◌, ◌-◌, ◌==◌, ◌&&◌, Bool, if◌then◌else◌, nat_lt}
use Rattle.std.specs.Prelude.{is_none, is_some, Option, None, Some, List, ◌∷◌, length, position}
use Rattle.std.specs.Prelude.{slice_index_or, slice_set, remove}
use Rattle.ec_wire.specs.Datagram.{DatagramRecord}
use Rattle.ecat_trips.specs.declared.packet.Outline.{Outline}
use Rattle.ecat_trips.specs.declared.trip.SentFrame.{SentFrame}
use Rattle.ecat_trips.specs.declared.trip.Trip.{Trip}
use Rattle.ecat_trips.specs.declared.marks.Marks.{Marks}
use Rattle.ecat_trips.specs.declared.way.Told.{Told}
use Rattle.ecat_trips.specs.declared.way.Way.{Way}
use Rattle.ecat_trips.specs.declared.way.Way.TheVariants.{Sent, Returned}
use Rattle.ecat_trips.specs.declared.trips.Fate.TheVariants.{Begins, Replaces, Second, Back, Closes, Late}
use Rattle.ecat_trips.specs.declared.trips.Fate.TheVariants.{Stray}
use Rattle.ecat_trips.specs.declared.trips.Step.{Step}
use Rattle.ecat_trips.specs.declared.trips.Step.TheVariants.{Ended, Taken}
use Rattle.ecat_trips.specs.Alike.{number_behind}
use Rattle.ecat_trips.specs.Lost.{remembered}
use Rattle.ecat_trips.specs.declared.trips.TheConstants.{MAX_ON_THE_WAY}
use Rattle.ecat_trips.specs.Trip.{asks_again, bears, begun, has_room, is_second, with_return, with_second}
use Rattle.ecat_trips.specs.Ways.{told}

-- the trips that are on the way, the newest first, and the sent frames of those that were lost last, the
-- newest first
pub record TripsState : Type 0 where
  pub on_the_way : List Trip
  pub lost : List SentFrame

-- one thing that happens, and what is so afterwards
pub record Move : Type 0 where
  pub step : Step
  pub after : TripsState

-- a frame bears the key of a trip
abbrev pub bears_trip : List DatagramRecord → Trip → Bool
bears_trip frame t = bears frame t.sent

-- the trip at a place; past the last one, where no place is, one that the packet would begin
abbrev pub trip_at : Outline → List DatagramRecord → TripsState → ℕ → Trip
trip_at p frame s i = slice_index_or s.on_the_way i (begun p frame)

-- the trip at a place, if there is one
abbrev pub trip_of : Outline → List DatagramRecord → TripsState → Option ℕ → Option Trip
trip_of p frame s None = None
trip_of p frame s (Some i) = Some (trip_at p frame s i)

-- ---- what may happen

-- of a trip that ends with no copy back the sent frame is known for a while
abbrev pub lost_with : Trip → List SentFrame → List SentFrame
lost_with t lost = if is_none t.back then remembered t.sent lost else lost

-- the trip at a place ends in front of the packet, which is still to be taken
abbrev pub ends : Outline → List DatagramRecord → TripsState → ℕ → Move
ends p frame s i = let t = trip_at p frame s i in record {
  step = Ended t;
  after = record { on_the_way = remove s.on_the_way i; lost = lost_with t s.lost };
}

-- the oldest one ends so
abbrev pub oldest_ends : Outline → List DatagramRecord → TripsState → Move
oldest_ends p frame s = ends p frame s (length s.on_the_way - 1)

-- the packet begins a trip; where as many are on the way as may be, the oldest ends first
abbrev pub begins : Outline → List DatagramRecord → TripsState → Told → Move
begins p frame s told =
    if nat_lt (length s.on_the_way) MAX_ON_THE_WAY
    then record {
      step = Taken told Begins;
      after = record { on_the_way = begun p frame ∷ s.on_the_way; lost = s.lost };
    }
    else oldest_ends p frame s

-- the packet begins a trip, and the one at a place, whose question it asks again, ends
abbrev pub replaces : Outline → List DatagramRecord → TripsState → Told → ℕ → Move
replaces p frame s told i = let t = trip_at p frame s i in record {
  step = Taken told (Replaces t);
  after = record { on_the_way = begun p frame ∷ remove s.on_the_way i; lost = lost_with t s.lost };
}

-- it is the second sent copy of the trip at a place
abbrev pub seconds : Outline → List DatagramRecord → TripsState → Told → ℕ → Move
seconds p frame s told i = let t = trip_at p frame s i in record {
  step = Taken told (Second t.first.number);
  after = record { on_the_way = slice_set s.on_the_way i (with_second p t); lost = s.lost };
}

-- it is a copy that came back, and one more is to come back of the trip
abbrev pub comes_back : Outline → List DatagramRecord → TripsState → Told → ℕ → Move
comes_back p frame s told i = let t = trip_at p frame s i in record {
  step = Taken told (Back t.first.number);
  after = record { on_the_way = slice_set s.on_the_way i (with_return p frame t); lost = s.lost };
}

-- it is the last copy that comes back, and the trip ends with it; since frames do not overtake each other,
-- all that began before it end first
abbrev pub closes : Outline → List DatagramRecord → TripsState → Told → ℕ → Move
closes p frame s told i =
    if length s.on_the_way == i + 1
    then record {
      step = Taken told (Closes (with_return p frame (trip_at p frame s i)));
      after = record { on_the_way = remove s.on_the_way i; lost = s.lost };
    }
    else oldest_ends p frame s

-- it came back, and no trip on the way has room for it: it is late where it bears the key of one that was
-- lost, and else stray
abbrev pub strays : TripsState → Told → Option ℕ → Move
strays s told None = record { step = Taken told Stray; after = s }
strays s told (Some j) = record {
  step = Taken told Late;
  after = record { on_the_way = s.on_the_way; lost = remove s.lost j };
}

abbrev pub is_late : Outline → List DatagramRecord → TripsState → Told → Move
is_late p frame s told = strays s told (position (bears frame) s.lost)

-- ---- what happens

-- the place of the newest trip whose question a frame with a number asks again
abbrev pub asked_before : List DatagramRecord → List Trip → Option ℕ
asked_before frame ts = if is_some (number_behind frame) then position (asks_again frame) ts else None

-- a packet that was sent, and no trip of its key is on the way: it may ask again, under another number, what
-- the one at a place asked, which its master has given up
abbrev pub sent_new : Outline → List DatagramRecord → TripsState → Told → Option ℕ → Move
sent_new p frame s told None = begins p frame s told
sent_new p frame s told (Some j) = replaces p frame s told j

-- a packet that was sent: the second copy of the trip of its key, or this ends and another one begins
abbrev pub sent : Marks → Outline → List DatagramRecord → TripsState → Told → Option ℕ → Move
sent m p frame s told None = sent_new p frame s told (asked_before frame s.on_the_way)
sent m p frame s told (Some i) =
    if m.two && is_second p frame (trip_at p frame s i) then seconds p frame s told i
    else replaces p frame s told i

-- a packet that returned: with two ports a trip awaits two copies
abbrev pub returned : Marks → Outline → List DatagramRecord → TripsState → Told → Option ℕ → Move
returned m p frame s told None = is_late p frame s told
returned m p frame s told (Some i) =
    if has_room (trip_at p frame s i)
    then (if m.two && is_none (trip_at p frame s i).back then comes_back p frame s told i
    else closes p frame s told i)
    else is_late p frame s told

abbrev pub by_way : Marks → Outline → List DatagramRecord → TripsState → Told → Option ℕ → Way → Move
by_way m p frame s told at Sent = sent m p frame s told at
by_way m p frame s told at Returned = returned m p frame s told at

-- a packet whose trip on the way, by its key, stands at this place
abbrev pub step_at : Marks → Outline → List DatagramRecord → TripsState → Option ℕ → Move
step_at m p frame s at =
    let t = told m p frame (trip_of p frame s at) in by_way m p frame s t at t.way

-- a packet
abbrev pub step : Marks → Outline → List DatagramRecord → TripsState → Move
step m p frame s = step_at m p frame s (position (bears_trip frame) s.on_the_way)
