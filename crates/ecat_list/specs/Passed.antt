-- What is counted of a capture: what becomes of each datagram, by the trips of its frames.
use Rattle.std.specs.Prelude.{ℕ, zero, suc, Bool, true, false, if◌then◌else◌, min, List, [], ◌∷◌, ◌++◌}
use Rattle.std.specs.Prelude.{length, Option, None, Some}
use Rattle.std.specs.Option.{option_or}
use Rattle.ec_wire.specs.Datagram.{DatagramRecord, code_of, nth}
use Rattle.ecat_trips.specs.Alike.{kept_address}
use Rattle.ecat_trips.specs.Copies.{moved}
use Rattle.ecat_trips.specs.declared.packet.Outline.{Outline}
use Rattle.ecat_trips.specs.declared.trip.Trip.{Trip}
use Rattle.ecat_trips.specs.declared.trips.Fate.{Fate}
use Rattle.ecat_trips.specs.declared.trips.Fate.TheVariants.{Begins, Replaces, Second, Back, Closes, Late}
use Rattle.ecat_trips.specs.declared.trips.Fate.TheVariants.{Stray}
use Rattle.ecat_trips.specs.declared.trips.Step.{Step}
use Rattle.ecat_trips.specs.declared.trips.Step.TheVariants.{Ended, Taken}
use Rattle.ecat_list.specs.declared.counters.Place.{Place}
use Rattle.ecat_list.specs.declared.passed.Key.{Key}
use Rattle.ecat_list.specs.declared.passed.Passed.{Passed}
use Rattle.ecat_list.specs.declared.passed.Seen.{Seen}
use Rattle.ecat_list.specs.declared.passed.What.{What}
use Rattle.ecat_list.specs.declared.passed.What.TheVariants.{Sent, Returned, Lost, CameLate, CameAstray}

-- ---- what may become of a datagram

abbrev pub is_sent : What → Bool
is_sent Sent = true
is_sent _ = false

abbrev pub is_returned : What → Bool
is_returned Returned = true
is_returned _ = false

abbrev pub is_lost : What → Bool
is_lost Lost = true
is_lost _ = false

abbrev pub is_late : What → Bool
is_late CameLate = true
is_late _ = false

abbrev pub is_astray : What → Bool
is_astray CameAstray = true
is_astray _ = false

-- ---- one datagram

-- what the datagrams of a group have in common: command, address but for an ADP that slaves count up, and
-- length; the index too where it is asked for
abbrev pub key_of : Bool → DatagramRecord → Key
key_of by_index d = record {
  code = code_of d.command;
  address = kept_address d.command d.address;
  length = length d.payload;
  index = if by_index then d.index else 0;
}

-- the counter that counts: how far that of a returned datagram moved, and else its own
abbrev pub counter_of : What → DatagramRecord → DatagramRecord → ℕ
counter_of Returned sent came = moved sent came
counter_of _ sent came = came.counter

-- a datagram as it was sent, and as it came
abbrev pub passed_of : Bool → Seen → DatagramRecord → DatagramRecord → Passed
passed_of by_index seen sent came = record {
  key = key_of by_index sent;
  command = sent.command;
  seen = seen;
  counter = counter_of seen.what sent came;
}

-- ---- the datagrams of a frame

-- the first datagrams of a frame, as it was sent and as it came
unfoldable pub firsts_of : Bool → Seen → List DatagramRecord → List DatagramRecord → ℕ → List Passed
firsts_of by_index seen sent came zero = []
firsts_of by_index seen sent came (suc n) =
    firsts_of by_index seen sent came n ++ passed_of by_index seen (nth sent n) (nth came n) ∷ []

-- all of them
abbrev pub all_of : Bool → Seen → List DatagramRecord → List DatagramRecord → List Passed
all_of by_index seen sent came = firsts_of by_index seen sent came (min (length sent) (length came))

-- ---- what happens

-- where a packet is
abbrev pub place_of : Outline → Place
place_of p = record { packet = p.number; time = p.time }

abbrev pub seen_in : What → Outline → Seen
seen_in what p = record { what = what; at = place_of p; began = None }

-- the last packet of a trip that came back, if one did
abbrev pub came_in : Trip → Outline
came_in t = packet_or t.first (option_or t.again t.back)
  where
    packet_or : Outline → Option Outline → Outline
    packet_or p None = p
    packet_or p (Some q) = q

-- a trip ended: it is lost, or it came back, with what it was sent
abbrev pub ended_with : Bool → Trip → Option (List DatagramRecord) → List Passed
ended_with by_index t None = all_of by_index (seen_in Lost t.first) t.sent.frame t.sent.frame
ended_with by_index t (Some came) =
    all_of by_index (record { what = Returned; at = place_of (came_in t); began = t.first.time })
    t.sent.frame came

abbrev pub ended : Bool → Trip → List Passed
ended by_index t = ended_with by_index t t.came

-- a packet was taken: it was sent, or it is late or stray; a trip may end with it
abbrev pub fated : Bool → Outline → List DatagramRecord → Fate → List Passed
fated by_index p frame Begins = all_of by_index (seen_in Sent p) frame frame
fated by_index p frame (Replaces t) = ended by_index t ++ all_of by_index (seen_in Sent p) frame frame
fated by_index p frame (Second began) = []
fated by_index p frame (Back began) = []
fated by_index p frame (Closes t) = ended by_index t
fated by_index p frame Late = all_of by_index (seen_in CameLate p) frame frame
fated by_index p frame Stray = all_of by_index (seen_in CameAstray p) frame frame

-- something happened to a packet
abbrev pub happened : Bool → Outline → List DatagramRecord → Step → List Passed
happened by_index p frame (Ended t) = ended by_index t
happened by_index p frame (Taken told fate) = fated by_index p frame fate
