-- A ring of simulated slaves as ports of a master that say where copies arrived: a frame travels over it
-- under the ring's own links, and then every slave takes its step.
use Rattle.std.specs.Prelude.{◌≡◌, List, Result, Ok}
use Rattle.ec_wire.specs.Datagram.{DatagramRecord}
use Rattle.ec_ring.specs.Arrivals.{arrivals_of}
use Rattle.ec_ring.specs.Ring.{RingState, line_of, stepped, with_line}
use Rattle.ec_ring.specs.Travel.{travelled}
use Rattle.ec_ring.specs.Weather.{calm}
use Rattle.ec_ring.specs.declared.arrivals.Arrivals.{Arrivals}
use Rattle.ec_ring.specs.declared.port.PortFault.{PortFault}

-- copy A goes first, under the same links as copy B, and none is lost on its last hop
abbrev pub HeardRing : RingState → List DatagramRecord → Result Arrivals PortFault → RingState → Type 0
HeardRing before sent came later =
    (came ≡ Ok (arrivals_of (calm before.links) sent (line_of before)))
    × (later ≡ stepped (with_line before (travelled (calm before.links) sent (line_of before)).line))
