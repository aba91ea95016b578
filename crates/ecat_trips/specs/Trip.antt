-- A trip: what was sent, once or by both ports of a master, and what came back of it.
use Rattle.std.specs.Prelude.{◌==◌, ◌&&◌, ◌||◌, Bool, false, not, Option, None, Some, is_none}
use Rattle.std.specs.Prelude.{is_some}
use Rattle.std.specs.Prelude.{List}
use Rattle.ec_wire.specs.Datagram.{DatagramRecord}
use Rattle.ecat_trips.specs.declared.packet.Outline.{Outline}
use Rattle.ecat_trips.specs.declared.trip.SentFrame.{SentFrame}
use Rattle.ecat_trips.specs.declared.trip.Trip.{Trip}
use Rattle.ecat_trips.specs.Alike.{same_frame, same_key, same_question}
use Rattle.ecat_trips.specs.Copies.{both_moved, joined_with, with_number}

-- a frame bears the key of a sent one
abbrev pub bears : List DatagramRecord → SentFrame → Bool
bears frame sent = same_key sent.frame frame

-- a frame asks what the one of a trip asked, under whatever number
abbrev pub asks_again : List DatagramRecord → Trip → Bool
asks_again frame t = same_question t.sent.frame frame

-- ---- what a trip becomes

-- a trip that begins with this packet
abbrev pub begun : Outline → List DatagramRecord → Trip
begun p frame = record {
  sent = record { frame = frame };
  first = p;
  second = None;
  came = None;
  back = None;
  again = None;
  is_open = false;
}

-- a packet is the second sent copy of a trip: of another base, the other copy of the frame
abbrev pub is_second : Outline → List DatagramRecord → Trip → Bool
is_second p frame t =
    is_none t.second && not (p.source.base == t.first.source.base) && same_frame t.sent.frame frame

abbrev pub with_second : Outline → Trip → Trip
with_second p t = record t { second = Some p }

-- no more copies may come back than were sent
abbrev pub has_room : Trip → Bool
has_room t = is_none t.back || is_some t.second

-- the first copy that comes back, and the second
abbrev pub with_back : Outline → List DatagramRecord → Trip → Trip
with_back p frame t = record t { came = Some (with_number t.sent.frame frame); back = Some p }

abbrev pub with_again : Outline → List DatagramRecord → Trip → Trip
with_again p frame t =
    let other = with_number t.sent.frame frame in
    record t {
      came = Some (joined_with t.sent.frame other t.came);
      again = Some p;
      is_open = both_moved t.sent.frame other t.came;
    }

-- one more copy that comes back
abbrev pub with_return_by : Option Outline → Outline → List DatagramRecord → Trip → Trip
with_return_by None p frame t = with_back p frame t
with_return_by (Some first) p frame t = with_again p frame t

abbrev pub with_return : Outline → List DatagramRecord → Trip → Trip
with_return p frame t = with_return_by t.back p frame t
