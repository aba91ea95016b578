-- A ring of simulated slaves as the ports of a master: a frame travels over it under the ring's own links,
-- and then every slave takes its step.
use Rattle.std.specs.Prelude.{◌≡◌, List, Result, Ok}
use Rattle.ec_wire.specs.Datagram.{DatagramRecord}
use Rattle.ec_ring.specs.Ring.{RingState, line_of, stepped, with_line}
use Rattle.ec_ring.specs.Travel.{travelled}
use Rattle.ec_ring.specs.declared.weather.Came.{Came}
use Rattle.ec_ring.specs.Weather.{calm}
use Rattle.ec_ring.specs.declared.port.PortFault.{PortFault}

-- copy A goes first, under the same links as copy B, and none is lost on its last hop
abbrev pub RingTrips : RingState → List DatagramRecord → Result Came PortFault → RingState → Type 0
RingTrips before sent came later =
    let t = travelled (calm before.links) sent (line_of before)
    in (came ≡ Ok t.came) × (later ≡ stepped (with_line before t.line))
