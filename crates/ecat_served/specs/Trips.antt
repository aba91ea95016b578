-- A trip over a line that is served: which packets of its history are the two copies of the trip, and what
-- the line gives back of it.
use Rattle.std.specs.Prelude.{◌≡◌, ◌⊎◌, ℕ, Bool, if◌then◌else◌, List, [], ◌∷◌, length}
use Rattle.std.specs.Prelude.{Option, None, Some, IfSome}
use Rattle.std.specs.List.{AllByRecursion}
use Rattle.ec_wire.specs.Datagram.{DatagramRecord}
use Rattle.ec_wire.specs.declared.command.Command.TheVariants.{Nop, Lrd}
use Rattle.ec_esc.specs.State.{ControllerState}
use Rattle.ec_line.specs.After.{Entry}
use Rattle.ec_line.specs.Answered.{sent_of}
use Rattle.ec_line.specs.Moving.{Visit, IsMovingTrip, when_a, when_b, copy_a, copy_b, laters}
use Rattle.ec_line.specs.Trip.{Trip}
use Rattle.ec_ring.specs.Reach.{arrival_a, arrival_b}
use Rattle.ec_ring.specs.Travel.{came_of}
use Rattle.ec_ring.specs.declared.links.Links.{Links}
use Rattle.ec_ring.specs.declared.port.Port.{Port}
use Rattle.ec_ring.specs.declared.port.Port.TheVariants.{A, B}
use Rattle.ec_ring.specs.declared.weather.Came.{Came}
use Rattle.ec_ring.specs.declared.weather.Weather.{Weather}
use Rattle.ec_number.specs.Number.{numbered, number_a, number_b}
use Rattle.ecat_served.specs.History.{AllHaveMoved, AreControllers, IsHistory, Packet, walk_of}

-- ---- one trip

-- the two copies of a trip as they go out
pub record Sent : Type 0 where
  pub a : List DatagramRecord
  pub b : List DatagramRecord

-- a frame goes out twice, as it is
abbrev pub plain : List Entry → Sent
plain f = record { a = sent_of f; b = sent_of f }

-- or under the two numbers of its trip
abbrev pub sealed : ℕ → List Entry → Sent
sealed n f = record { a = numbered (number_a n) (sent_of f); b = numbered (number_b n) (sent_of f) }

-- what came to a line while a trip was on its way: all packets, and which of them are its two copies, if
-- they came
pub record Traffic : Type 0 where
  pub packets : List Packet
  pub a : Option Packet
  pub b : Option Packet

-- a packet that leaves each slave as its application might have: one that writes no output and no mapping
abbrev pub IsQuiet : Packet → Type 0
IsQuiet p = AllHaveMoved p.met (walk_of p).line

-- a datagram that listens: a NOP or a logical read, by which a slave gives what it has and takes nothing
abbrev pub Listens : DatagramRecord → Type 0
Listens d = (d.command ≡ Nop) ⊎ (d.command ≡ Lrd)

-- a frame of those alone
abbrev pub IsListening : List DatagramRecord → Type 0
IsListening ds = AllByRecursion Listens ds

-- of the packets each is quiet but for copy A, if it came, and copy B, if it did, which came once and in
-- either order
abbrev pub AreOfTrip : Option Packet → Option Packet → List Packet → Type 0
AreOfTrip a b [] = (a ≡ None) × (b ≡ None)
AreOfTrip a b (p ∷ ps) =
    (IsQuiet p × AreOfTrip a b ps)
    ⊎ (((a ≡ Some p) × AreOfTrip None b ps) ⊎ ((b ≡ Some p) × AreOfTrip a None ps))

-- a copy came in at its end, as it went out, under the links of the weather; one that never came is a copy
-- that cannot start under them
abbrev pub IsCopy : Port → Links → List DatagramRecord → Option Port → Option Packet → Type 0
IsCopy from links sent arrival None = arrival ≡ None
IsCopy from links sent arrival (Some p) = (p.from ≡ from) × (p.links ≡ links) × (p.frame ≡ sent)

-- a trip of these copies over a line, in this weather: what came to the line, and the line then
pub record IsServedTrip (sent : Sent) (w : Weather) (line : List ControllerState) (got : Traffic)
    (later : List ControllerState) : Type 0 where
  pub controllers : AreControllers line
  pub history : IsHistory line got.packets later
  pub copies : AreOfTrip got.a got.b got.packets
  pub a : IsCopy A w.a sent.a (arrival_a w.a (length line)) got.a
  pub b : IsCopy B w.b sent.b (arrival_b w.b (length line)) got.b

-- what the line gave back of a trip, but for what was lost on its last hop
abbrev pub came_from : Bool → Option Packet → Option (List DatagramRecord)
came_from lost None = None
came_from lost (Some p) = came_of lost (walk_of p)

abbrev pub came_served : Weather → Traffic → Came
came_served w got = record { a = came_from w.lost_a got.a; b = came_from w.lost_b got.b }

-- what a trip over a line that moves gives
abbrev pub came_moving : Trip → List Visit → Came
came_moving t vs = record {
  a = if t.lost_a then None else Some (copy_a t vs).frame;
  b = if t.lost_b then None else Some (copy_b t vs).frame;
}

-- each copy that came met each slave as it was on this visit
pub record AreMetOn (got : Traffic) (vs : List Visit) : Type 0 where
  pub a : IfSome got.a (λ p. when_a vs ≡ p.met)
  pub b : IfSome got.b (λ p. when_b vs ≡ p.met)

-- what came to a line is a trip over one that moves, on which its slaves are visited so
pub record IsVisited (t : Trip) (line : List ControllerState) (got : Traffic) (later : List ControllerState)
    (vs : List Visit) : Type 0 where
  pub moving : IsMovingTrip t line vs
  pub left : laters vs ≡ later
  pub met : AreMetOn got vs
