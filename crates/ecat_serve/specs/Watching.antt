-- What somebody is told who watches a line: who speaks anew, and what becomes of each frame.
use Rattle.std.specs.Prelude.{nat_lt, List, ℕ, Option, None, Some, if◌then◌else◌}
use Rattle.std.specs.declared.net.socket_addr.SocketAddr.{SocketAddr}
use Rattle.ec_wire.specs.Datagram.{DatagramRecord}
use Rattle.ec_wire.specs.Fault.{IsSpelt}
use Rattle.ec_wire.specs.declared.fault.Form.TheVariants.{Udp}
use Rattle.ec_ring.specs.declared.port.Port.{Port}
use Rattle.ecat_serve.specs.Answering.{Arrival}
use Rattle.ecat_serve.specs.State.{ServedState, peer_at, to_lose_at}
use Rattle.ecat_serve.specs.declared.watch.Leaving.{Leaving}
use Rattle.ecat_serve.specs.declared.watch.Leaving.TheVariants.{Nowhere, Lost, Unheard, Left}

-- the bytes are a frame in the UDP form
abbrev pub IsFrame : List ℕ → Type 0
IsFrame packet = (frame : List DatagramRecord) × IsSpelt Udp packet frame

-- what becomes of a frame that arrives at an end where this one spoke last, if anybody did
abbrev pub leaving_to : Port → Option SocketAddr → Leaving
leaving_to at None = Unheard at
leaving_to at (Some peer) = Left at

-- what becomes of an arrival: it leaves to whoever spoke last where it arrives, unless it is to be lost there
abbrev pub leaving : ServedState → Arrival → Leaving
leaving s None = Nowhere
leaving s (Some arrived) =
    if nat_lt 0 (to_lose_at s arrived.1) then Lost arrived.1
    else leaving_to arrived.1 (peer_at s arrived.1)
