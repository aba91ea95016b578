-- How far ports have come, in trips: one after the other, whatever frames went out, and how many at the most.
use Rattle.std.specs.Prelude.{◌≡◌, ◌≤◌, ℕ, zero, suc, ◌+◌, ◌*◌, List, [], ◌∷◌, Result}
use Rattle.ec_wire.specs.Datagram.{DatagramRecord}
use Rattle.ec_ring.specs.declared.port.PortFault.{PortFault}
use Rattle.ec_ring.specs.declared.weather.Came.{Came}
use Rattle.ec_master.specs.Ports.{Trips}
use Rattle.ec_run.specs.Phase.{steps_from}
use Rattle.ec_run.specs.declared.objects.TheConstants.{STARTUP_TRIPS}
use Rattle.ec_run.specs.declared.phase.Phase.TheVariants as phase
use Rattle.ec_run.specs.declared.recovery.TheConstants.{MORE_LOOKS}
use Rattle.ec_run.specs.declared.step.Step.{Step}
use Rattle.ec_run.specs.declared.step.Step.TheVariants.{Station, StationBehind, StationBefore}
use Rattle.ec_run.specs.declared.step.Step.TheVariants.{SyncManager, Fmmu, Startup, State}
use Rattle.ec_run.specs.declared.step.TheConstants.{MORE_TRIES, MOST_READS}

-- so many trips lead from one state of the ports to another
unfoldable pub Travels : {P : Type 0} → Trips P → ℕ → P → P → Type 0
Travels trips zero before later = later ≡ before
Travels {P} trips (suc n) before later =
    (sent : List DatagramRecord) × (came : Result Came PortFault) × (between : P)
    × trips before sent came between × Travels trips n between later

-- at most so many do
pub record IsWithin {P : Type 0} (trips : Trips P) (most : ℕ) (before later : P) : Type 0 where
  pub number : ℕ
  pub bound : number ≤ most
  pub travels : Travels trips number before later

-- ---- how many there are at the most

-- of a step, each time that it is tried: one for each question that it has
abbrev pub trips_of : Step → ℕ
trips_of Station = 1
trips_of (StationBehind first) = 1
trips_of StationBefore = 1
trips_of (SyncManager n) = 4
trips_of (Fmmu n) = 2
trips_of (Startup n) = STARTUP_TRIPS
trips_of (State state) = MOST_READS + 1

-- of steps, each of which is tried so often at the most
abbrev pub trips_of_all : List Step → ℕ
trips_of_all [] = 0
trips_of_all (step ∷ rest) = (MORE_TRIES + 1) * trips_of step + trips_of_all rest

-- of the looks at a slave
abbrev pub look_trips : ℕ
look_trips = MORE_LOOKS + 1

-- of a turn of a recovery
abbrev pub turn_trips : ℕ
turn_trips = 1

-- of a recovery: the looks, and all the steps that there are
abbrev pub recovery_trips : ℕ
recovery_trips = look_trips + trips_of_all (Station ∷ steps_from phase.Init)
