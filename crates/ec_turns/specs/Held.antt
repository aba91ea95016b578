-- Ports at which nobody waits: what comes back of a frame was heard before, and the frame is kept for who
-- sends it.
use Rattle.std.specs.Prelude.{◌≡◌, Option, None, Some, List, Result, Ok}
use Rattle.ec_wire.specs.Datagram.{DatagramRecord}
use Rattle.ec_master.specs.Ports.{Trips}
use Rattle.ec_ring.specs.declared.port.PortFault.{PortFault}
use Rattle.ec_ring.specs.declared.weather.Came.{Came}

-- what the next trip gives, and the frame of the last one, where one was made
pub record HeldState : Type 0 where
  pub came : Came
  pub sent : Option (List DatagramRecord)

abbrev pub nothing : Came
nothing = record { a = None; b = None }

-- ports that have made no trip, and that give this
abbrev pub giving : Came → HeldState
giving came = record { came = came; sent = None }

-- a trip gives what was heard, once, and keeps its frame
abbrev pub HeldTrips : HeldState → List DatagramRecord → Result Came PortFault → HeldState → Type 0
HeldTrips before sent result later =
    (result ≡ Ok before.came) × (later ≡ record { came = nothing; sent = Some sent })

-- ports give for the frame of a turn what was held in it
pub record Give {P : Type 0} (trips : Trips P) (before : P) (came : Came) (held : HeldState) (later : P)
    : Type 0 where
  pub frame : List DatagramRecord
  pub sent : held.sent ≡ Some frame
  pub made : trips before frame (Ok came) later
