-- A state request over a ring: AL control of one slave is written, each slave takes its step, and what that
-- slave's AL status tells then is the result (IEC 61158-6-12, AL management).
use Rattle.std.specs.Prelude.{◌≡◌, ◌≢◌, ◌<◌, ℕ, if◌then◌else◌, List, ◌∷◌, ◌++◌, Result, Ok, Err, map}
use Rattle.std.specs.List.{AllByRecursion}
use Rattle.ec_regs.specs.declared.al.AlState.{AlState}
use Rattle.ec_regs.specs.declared.registers.TheConstants.{STATION_ADDRESS}
use Rattle.ec_esc.specs.Application.{al_status, al_status_code}
use Rattle.ec_esc.specs.State.{ControllerState, IsController, word_at}
use Rattle.ec_app.specs.Slave.{step}
use Rattle.ec_app.specs.State.{SlaveState}
use Rattle.ec_ring.specs.Ring.{RingState, line_of, stepped}
use Rattle.ec_master.specs.Travelled.{AtMostOneDown}
use Rattle.ec_services.specs.States.{control_write}
use Rattle.ec_services.specs.declared.fault.MasterFault.{MasterFault}
use Rattle.ec_services.specs.declared.fault.MasterFault.TheVariants.{Refused}
use Rattle.ec_over_ring.specs.Question.{after_question, ring_after}

-- ---- who is asked

-- a slave that has another station
abbrev pub IsElsewhere : ℕ → SlaveState → Type 0
IsElsewhere station x = word_at x.controller.memory STATION_ADDRESS ≢ station

-- a station of a ring that one slave has, between those before it and those behind it, with at most one link
-- down; each slave has a controller
pub record HasStation (station : ℕ) (r : RingState) (before : List SlaveState) (s : SlaveState)
    (behind : List SlaveState) : Type 0 where
  pub down : AtMostOneDown r
  pub slaves : r.slaves ≡ before ++ s ∷ behind
  pub address : station < 65536
  pub station_is : word_at s.controller.memory STATION_ADDRESS ≡ station
  pub others_before : AllByRecursion (IsElsewhere station) before
  pub others_behind : AllByRecursion (IsElsewhere station) behind
  pub controllers : AllByRecursion IsController (line_of r)

-- ---- what it comes to

-- the slave that was asked for a state, once it took its step
abbrev pub asked_slave : ℕ → AlState → SlaveState → SlaveState
asked_slave station state s = step (after_question (control_write station state) s)

-- the ring once each slave took that step
abbrev pub asked_ring : ℕ → AlState → RingState → List SlaveState → SlaveState → List SlaveState → RingState
asked_ring station state r before s behind = ring_after (control_write station state) r before s behind

-- an error is told with its code
abbrev pub told_state : ControllerState → Result (Unit {0}) MasterFault
told_state c = if (al_status c).error then Err (Refused (al_status_code c)) else Ok tt

-- ---- an error that is acknowledged

-- the slave that was asked for the state in which a read found it, with the acknowledgement: the read left it
-- as it was, and behind each trip it took its step
abbrev pub acknowledged_slave : ℕ → SlaveState → SlaveState
acknowledged_slave station s = asked_slave station (al_status s.controller).state (step s)

-- the ring once each slave took those steps
abbrev pub acknowledged_ring : ℕ → RingState → List SlaveState → SlaveState → List SlaveState → RingState
acknowledged_ring station r before s behind =
    asked_ring station (al_status s.controller).state (stepped r) (map step before) (step s) (map step behind)
