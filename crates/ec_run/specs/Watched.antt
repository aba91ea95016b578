-- Ports that say where copies arrive, as ports of a master that keep what the copies told.
use Rattle.std.specs.Prelude.{◌≡◌, List, Result, Ok, Err}
use Rattle.ec_wire.specs.Datagram.{DatagramRecord}
use Rattle.ec_ring.specs.Arrivals.{copies_came}
use Rattle.ec_ring.specs.declared.arrivals.Arrivals.{Arrivals}
use Rattle.ec_ring.specs.declared.port.PortFault.{PortFault}
use Rattle.ec_ring.specs.declared.weather.Came.{Came}
use Rattle.ec_run.specs.Tally.{TallyRecord, nothing_told, with_frame}

-- a trip of ports that say where copies arrive: which of them came counts, and where does not
pub record PortsTrip {P : Type 0} (trips : P → List DatagramRecord → Result Arrivals PortFault → P
    → Type 0)
    (before : P) (sent : List DatagramRecord) (came : Result Came PortFault) (later : P) : Type 0 where
  pub arrivals : Result Arrivals PortFault
  pub made : trips before sent arrivals later
  pub copies : came ≡ copies_came arrivals

-- ---- what the copies told

-- the ports, and what the copies of the frames told that have gone out since that was last cleared
pub record WatchedState (P : Type 0) : Type 0 where
  pub ports : P
  pub tally : TallyRecord

-- these ports, of which nothing is told
abbrev pub untold : {P : Type 0} → P → WatchedState P
untold p = record { ports = p; tally = nothing_told }

-- what is told behind a trip of one frame more; a trip that failed tells nothing
abbrev pub tally_behind : TallyRecord → List DatagramRecord → Result Arrivals PortFault → TallyRecord
tally_behind h sent (Err failed) = h
tally_behind h sent (Ok arrivals) = with_frame h sent arrivals

-- a trip is one of the ports, of which the copies count, wherever they arrived; and what they told is kept
pub record WatchedTrips {P : Type 0} (trips : P → List DatagramRecord → Result Arrivals PortFault → P
    → Type 0)
    (before : WatchedState P) (sent : List DatagramRecord) (came : Result Came PortFault)
    (later : WatchedState P) : Type 0 where
  pub arrivals : Result Arrivals PortFault
  pub made : trips before.ports sent arrivals later.ports
  pub copies : came ≡ copies_came arrivals
  pub told : later.tally ≡ tally_behind before.tally sent arrivals
