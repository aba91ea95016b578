-- What is stated of a trip over packets, and what it does to the ring.
use Rattle.std.specs.Prelude.{◌≡◌, ◌⊎◌, List, Result, IfOk, IfSome}
use Rattle.std.specs.Option.{option_map}
use Rattle.ec_wire.specs.Datagram.{DatagramRecord}
use Rattle.ec_ring.specs.Ring.{RingState, line_of, with_line}
use Rattle.ec_ring.specs.Walk.{walked}
use Rattle.ec_ring.specs.declared.port.Port.{Port}
use Rattle.ec_ring.specs.declared.port.Port.TheVariants.{A, B}
use Rattle.ec_ring.specs.declared.arrivals.Arrival.{Arrival}
use Rattle.ec_ring.specs.declared.arrivals.Arrivals.{Arrivals}
use Rattle.ec_ring.specs.declared.weather.Came.{Came}
use Rattle.ec_ring.specs.declared.port.PortFault.{PortFault}
use Rattle.ecat_udp.specs.Received.{Gives, AreReceived}
use Rattle.ecat_udp.specs.State.{PortsState}

-- the ring behind a copy that has walked over it from a port, under its own links
abbrev pub after_copy : Port → List DatagramRecord → RingState → RingState
after_copy from copy ring = with_line ring (walked from ring.links copy (line_of ring)).line

-- at most one copy has walked over the ring from this port
abbrev pub IsWalkedOnce : Port → RingState → RingState → Type 0
IsWalkedOnce from before later =
    (later ≡ before) ⊎ ((copy : List DatagramRecord) × (later ≡ after_copy from copy before))

-- at most one copy from port A, and then at most one from port B, have walked over the ring
abbrev pub IsWalked : RingState → RingState → Type 0
IsWalked before later = (between : RingState) × IsWalkedOnce A before between × IsWalkedOnce B between later

-- A trip walks copies over the ring behind the ports, and what came are the copies that the packets are which
-- the last two receives gave, at the master's ports A and B. What a socket gives is up to the system.
pub record WalkedTrip {L : Type 0} (gives : Gives L) (before : PortsState L) (sent : List DatagramRecord)
    (came : Result Came PortFault) (later : PortsState L) : Type 0 where
  pub walked : IsWalked before.ring later.ring
  pub received : IfOk came (λ (copies : Came). AreReceived gives copies later.line)

abbrev pub WalkedTrips : {L : Type 0} → Gives L → PortsState L → List DatagramRecord → Result Came PortFault
    → PortsState L → Type 0
WalkedTrips gives before sent came later = WalkedTrip gives before sent came later

-- the copies, whatever is known of where they arrived
abbrev pub copies_of : Arrivals → Came
copies_of came = record { a = option_map frame_of came.a; b = option_map frame_of came.b }
  where
    frame_of : Arrival → List DatagramRecord
    frame_of x = x.frame

-- the copies in the place of each port have arrived there
pub record ArrivedThere (came : Arrivals) : Type 0 where
  pub at_a : IfSome came.a (λ (x : Arrival). x.at ≡ A)
  pub at_b : IfSome came.b (λ (x : Arrival). x.at ≡ B)

-- such a trip, with the port where each copy arrived
pub record HeardTrips {L : Type 0} (gives : Gives L) (before : PortsState L) (sent : List DatagramRecord)
    (came : Result Arrivals PortFault) (later : PortsState L) : Type 0 where
  pub walked : IsWalked before.ring later.ring
  pub arrived : IfOk came ArrivedThere
  pub received : IfOk came (λ (copies : Arrivals). AreReceived gives (copies_of copies) later.line)
