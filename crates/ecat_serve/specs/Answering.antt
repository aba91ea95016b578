-- What a packet gets back: a frame walks over the line from the end where it came in (IEC 61158-4-12, a
-- slave's ports), and what arrives and is not lost there goes to whoever spoke last at that end.
use Rattle.std.specs.Prelude.{◌≡◌, ℕ, ◌-◌, nat_lt, List, Option, None, Some}
use Rattle.std.specs.Prelude.{if◌then◌else◌}
use Rattle.std.specs.Prelude.{Result, Ok}
use Rattle.std.specs.declared.net.socket_addr.SocketAddr.{SocketAddr}
use Rattle.ec_wire.specs.Datagram.{DatagramRecord}
use Rattle.ec_wire.specs.Spelling.{spelling}
use Rattle.ec_ring.specs.declared.port.PortFault.{PortFault}
use Rattle.ec_ring.specs.Links.{is_up}
use Rattle.ec_ring.specs.Ring.{line_of, with_line}
use Rattle.ec_ring.specs.Walk.{walked}
use Rattle.ec_ring.specs.declared.links.Links.{Links}
use Rattle.ec_ring.specs.declared.port.Port.{Port}
use Rattle.ecat_serve.specs.Ends.{Sends}
use Rattle.ecat_serve.specs.State.{ServedState, losing, moved_on, peer_at, serves_link, to_lose_at}

-- these are the links under which frames walk
abbrev pub AreServed : ServedState → Links → Type 0
AreServed s links = (k : ℕ) → is_up links k ≡ serves_link s k

-- what arrives of a frame, and where
abbrev pub Arrival : Type 0
Arrival = Option (List DatagramRecord × Port)

-- a frame walks from an end over the line, and then each slave takes its step and each application acts
pub record Walks (before : ServedState) (from : Port) (frame : List DatagramRecord) (arrival : Arrival)
    (later : ServedState) : Type 0 where
  pub links : Links
  pub served : AreServed before links
  pub arrives : arrival ≡ (walked from links frame (line_of before.ring)).arrived
  pub leaves : later ≡ moved_on before
      (with_line before.ring (walked from links frame (line_of before.ring)).line)

-- what of an arrival is not lost: nothing where a copy that arrives there is still to be
abbrev pub spared : ServedState → Arrival → Arrival
spared s None = None
spared s (Some arrived) = if nat_lt 0 (to_lose_at s arrived.1) then None else Some arrived

-- the line behind an arrival: at its end one copy fewer is to be lost, if any was
abbrev pub once_lost : ServedState → Arrival → ServedState
once_lost s None = s
once_lost s (Some arrived) = losing s arrived.1 (to_lose_at s arrived.1 - 1)

-- the packet of a frame is sent from an end to somebody; where there is nobody, nothing is
abbrev pub SendsTo : {E : Type 0} → Sends E → E → Port → Option SocketAddr → List DatagramRecord
    → Result (Unit {0}) PortFault → E → Type 0
SendsTo sends before from None frame result later = (result ≡ Ok tt) × (later ≡ before)
SendsTo sends before from (Some peer) frame result later =
    sends before from peer (spelling frame) result later

-- what arrives leaves from the end where it arrives, to whoever spoke last there; what is lost leaves nowhere
abbrev pub Replies : {E : Type 0} → Sends E → ServedState → Arrival → E → Result (Unit {0}) PortFault → E
    → Type 0
Replies sends served None before result later = (result ≡ Ok tt) × (later ≡ before)
Replies sends served (Some arrived) before result later =
    SendsTo sends before arrived.1 (peer_at served arrived.1) arrived.0 result later
