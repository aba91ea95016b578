-- What is stated of a trip to a line that lies somewhere else: its number was the next; what came was taken
-- of what the ports gave in this trip, under this number. A frame with no room for a number is not sent.
use Rattle.std.specs.Prelude.{◌≡◌, ◌⊎◌, ◌≤◌, ◌<◌, ℕ, ◌+◌, ◌%◌, ◌^◌, Bool, true, List, None, Result, Ok, Err}
use Rattle.std.specs.Option.{option_map}
use Rattle.ec_wire.specs.Datagram.{DatagramRecord}
use Rattle.ec_wire.specs.Spelling.{IsFrameValue, body_length}
use Rattle.ec_wire.specs.declared.layout.TheConstants.{MAX_LENGTH}
use Rattle.ec_number.specs.declared.number.TheConstants.{NUMBER_LENGTH}
use Rattle.ec_ring.specs.Arrivals.{arrived_at, copies_came}
use Rattle.ec_ring.specs.declared.arrivals.Arrivals.{Arrivals}
use Rattle.ec_ring.specs.declared.port.Port.{Port}
use Rattle.ec_ring.specs.declared.port.Port.TheVariants.{A, B}
use Rattle.ec_ring.specs.declared.port.PortFault.{PortFault}
use Rattle.ec_ring.specs.declared.weather.Came.{Came}
use Rattle.ecat_remote.specs.Taken.{Gives, Heard, AreTaken}

-- what carries the packets, and the number of the next trip
pub record RemoteState (C : Type 0) : Type 0 where
  pub carrier : C
  pub next : ℕ

-- a frame has room for a number behind its datagrams
abbrev pub HasRoom : List DatagramRecord → Type 0
HasRoom sent = body_length sent + NUMBER_LENGTH ≤ MAX_LENGTH

-- does a port speak with an end of the line?
abbrev pub Speaks : Type 0 → Type 0
Speaks C = C → Port → Bool

-- which ports speak with an end: A, and B if it has one
abbrev pub speaks_at : Bool → Port → Bool
speaks_at b A = true
speaks_at b B = b

-- a frame went out on the next trip
pub record IsTurn {C : Type 0} (before : RemoteState C) (sent : List DatagramRecord) (later : RemoteState C)
    : Type 0 where
  pub frame : IsFrameValue sent
  pub room : HasRoom sent
  pub below : before.next < 2 ^ 63
  pub next : later.next ≡ (before.next + 1) % 2 ^ 63

-- a frame with no room for a number was not sent, and no copy came
pub record IsRefused {C : Type 0} (before : RemoteState C) (sent : List DatagramRecord) (copies : Came)
    (later : RemoteState C) : Type 0 where
  pub full : MAX_LENGTH < body_length sent + NUMBER_LENGTH
  pub none : copies ≡ record { a = None; b = None }
  pub same : later ≡ before

-- what came was taken of the packets that the ports gave in this trip
pub record RemoteTrip {C : Type 0} (gives : Gives C) (heard : Heard C) (before : RemoteState C)
    (sent : List DatagramRecord) (copies : Came) (later : RemoteState C) : Type 0 where
  pub taken : AreTaken gives heard (heard before.carrier) before.next sent copies later.carrier
  pub turn : IsTurn before sent later

-- a trip that failed has had its turn
abbrev pub RemoteTrips : {C : Type 0} → Gives C → Heard C → RemoteState C → List DatagramRecord
    → Result Came PortFault → RemoteState C → Type 0
RemoteTrips gives heard before sent (Ok copies) later =
    IsRefused before sent copies later ⊎ RemoteTrip gives heard before sent copies later
RemoteTrips gives heard before sent (Err failed) later = IsTurn before sent later

-- the copies, as those that arrived at the port where each was taken
abbrev pub arrivals_of : Came → Arrivals
arrivals_of came = record { a = option_map (arrived_at A) came.a; b = option_map (arrived_at B) came.b }

-- such a trip, of which it is known where each copy arrived: at the port where it was taken
pub record HeardTrip {C : Type 0} (gives : Gives C) (heard : Heard C) (before : RemoteState C)
    (sent : List DatagramRecord) (came : Arrivals) (later : RemoteState C) : Type 0 where
  pub copies : Came
  pub arrived : came ≡ arrivals_of copies
  pub trip : RemoteTrips gives heard before sent (Ok copies) later

abbrev pub HeardTrips : {C : Type 0} → Gives C → Heard C → RemoteState C → List DatagramRecord
    → Result Arrivals PortFault → RemoteState C → Type 0
HeardTrips gives heard before sent (Ok came) later = HeardTrip gives heard before sent came later
HeardTrips gives heard before sent (Err failed) later = IsTurn before sent later

-- the copies of such a trip, as a master takes them that keeps where each arrived
pub record HeardCopies {C : Type 0} (gives : Gives C) (heard : Heard C) (before : RemoteState C)
    (sent : List DatagramRecord) (came : Result Came PortFault) (later : RemoteState C) : Type 0 where
  pub arrivals : Result Arrivals PortFault
  pub made : HeardTrips gives heard before sent arrivals later
  pub copies : came ≡ copies_came arrivals
