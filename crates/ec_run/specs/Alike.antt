-- Ports that are others, seen so: as ports that have a ring, and keep what its copies told, are that ring.
use Rattle.std.specs.Prelude.{List, Result}
use Rattle.ec_wire.specs.Datagram.{DatagramRecord}
use Rattle.ec_ring.specs.declared.port.PortFault.{PortFault}
use Rattle.ec_ring.specs.declared.weather.Came.{Came}
use Rattle.ec_master.specs.Ports.{Trips}

-- each trip over some ports is one over others, with the ports before and after it as f sees them: the same
-- frame goes out, and the same comes back of it
abbrev pub AreTripsOf : {P Q : Type 0} → (P → Q) → Trips P → Trips Q → Type 0
AreTripsOf {P} {Q} f trips others =
    (before : P) (sent : List DatagramRecord) (came : Result Came PortFault) (later : P)
    → trips before sent came later → others (f before) sent came (f later)
