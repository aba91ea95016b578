-- The rows of a packet of a trip: its number, when it was captured, which way it went, the packet with which
-- its trip began, the port of the line where it was, and the columns of each of its datagrams.
use Rattle.std.specs.Prelude.{◌≡◌, ℕ, ◌%◌, ◌==◌, if◌then◌else◌, List, [], ◌++◌, codes, drop}
use Rattle.std.specs.Prelude.{Option, None, Some}
use Rattle.std.specs.Option.{option_map}
use Rattle.std.specs.Fmt.{decimal}
use Rattle.ecat_trips.specs.declared.packet.Outline.{Outline}
use Rattle.ecat_trips.specs.declared.packet.Ports.{Ports}
use Rattle.ecat_trips.specs.declared.trips.Fate.{Fate}
use Rattle.ecat_trips.specs.declared.trips.Fate.TheVariants.{Begins, Replaces, Second, Back, Closes, Late}
use Rattle.ecat_trips.specs.declared.trips.Fate.TheVariants.{Stray}
use Rattle.ecat_stamps.specs.Stamps.{IsDate}
use Rattle.ecat_list.specs.Line.{behind_colons}
use Rattle.ecat_list.specs.declared.trip_rows.Direction.{Direction}
use Rattle.ecat_list.specs.declared.trip_rows.Direction.TheVariants as went
use Rattle.ecat_list.specs.declared.trip_rows.LinePort.{LinePort}
use Rattle.ecat_list.specs.declared.trip_rows.LinePort.TheVariants.{Udp, Address}
use Rattle.ecat_list.specs.declared.trip_rows.TripHead.{TripHead}

-- ---- what a packet is

-- when it was captured, in UTC, with nine digits behind the point (ISO 8601)
abbrev pub IsMoment : Option ℕ → Option (List ℕ) → Type 0
IsMoment None moment = moment ≡ None
IsMoment (Some nanoseconds) moment = (date : List ℕ) × (moment ≡ Some date) × IsDate nanoseconds 9 date

-- which way it went by what became of it
abbrev pub direction_of : Fate → Direction
direction_of Begins = went.Sent
direction_of (Replaces ended) = went.Sent
direction_of (Second began) = went.Sent
direction_of (Back began) = went.Returned
direction_of (Closes ended) = went.Returned
direction_of Late = went.Late
direction_of Stray = went.Stray

-- the packet with which its trip began; none of what came late or is stray
abbrev pub trip_of : ℕ → Fate → Option ℕ
trip_of number Begins = Some number
trip_of number (Replaces ended) = Some number
trip_of number (Second began) = Some began
trip_of number (Back began) = Some began
trip_of number (Closes ended) = Some ended.first.number
trip_of number Late = None
trip_of number Stray = None

-- the UDP port of the line where a packet came or went: 34980 where both have it, and else the end's
abbrev pub udp_port : ℕ → Ports → ℕ
udp_port base ports = if ports.from == ports.to then ports.to else base % 65536

-- ---- how it is told

abbrev pub direction_words : Direction → List ℕ
direction_words went.Sent = codes "sent"
direction_words went.Returned = codes "back"
direction_words went.Late = codes "late"
direction_words went.Stray = codes "stray"

abbrev pub moment_words : Option (List ℕ) → List ℕ
moment_words None = []
moment_words (Some date) = date

abbrev pub trip_words : Option ℕ → List ℕ
trip_words None = []
trip_words (Some began) = decimal began

abbrev pub port_words : LinePort → List ℕ
port_words (Udp port) = decimal port
port_words (Address bytes) = drop 1 (behind_colons bytes)

-- the columns that say which packet it is, and those that say what it is
abbrev pub packet_words : TripHead → List ℕ
packet_words head =
    decimal head.number ++ codes "," ++ moment_words (option_map (λ date. date.bytes) head.moment)
    ++ codes ","

abbrev pub way_words : TripHead → List ℕ
way_words head =
    direction_words head.direction ++ codes "," ++ trip_words head.trip ++ codes ","
    ++ port_words head.port ++ codes ","

-- what all rows of a packet begin with
abbrev pub trip_head_words : TripHead → List ℕ
trip_head_words head = packet_words head ++ way_words head
