-- Station addresses over a ring (IEC 61158-4-12, auto increment addressing and broadcast): each slave that a
-- datagram passes adds 1 to its ADP; one by place means the slave that finds 0 there, and a broadcast each.
use Rattle.std.specs.Prelude.{ℕ, zero, suc, ◌+◌, ◌≤◌, List, [], ◌∷◌, length}
use Rattle.std.specs.Int.{w16, to_le_bytes}
use Rattle.std.specs.List.{AllByRecursion}
use Rattle.ec_regs.specs.declared.registers.TheConstants.{STATION_ADDRESS}
use Rattle.ec_esc.specs.State.{ControllerState, with_run, word_at}
use Rattle.ec_app.specs.Lending.{with_controller}
use Rattle.ec_app.specs.Slave.{step}
use Rattle.ec_app.specs.State.{SlaveState}
use Rattle.ec_ring.specs.Ring.{RingState}
use Rattle.ec_ring.specs.declared.links.TheConstants.{MAX_SLAVES}
use Rattle.ec_over_ring.specs.Transfers.{IsSlave}

-- ---- one slave

-- the station address that it has
abbrev pub station_of : SlaveState → ℕ
station_of s = word_at s.controller.memory STATION_ADDRESS

-- a controller with another station address, all else as before
abbrev pub restationed : ControllerState → ℕ → ControllerState
restationed c station =
    record c { memory = with_run c.memory STATION_ADDRESS (to_le_bytes w16 station) }

-- a slave with another station address, all else as before
abbrev pub with_station : ℕ → SlaveState → SlaveState
with_station station s = with_controller s (restationed s.controller station)

-- a slave once it has taken so many steps
unfoldable pub steps : ℕ → SlaveState → SlaveState
steps zero s = s
steps (suc n) s = steps n (step s)

-- ---- the slaves of a line

-- a ring of no more slaves than it may have, each of which is one
pub record HasSlaves (r : RingState) : Type 0 where
  pub limit : length r.slaves ≤ MAX_SLAVES
  pub each : AllByRecursion IsSlave r.slaves

-- the slaves from a place on once each has its station address, the first of them this one, and each further
-- one 1 more: a slave took a step with the broadcast and one with each write to a place before its own; then
-- it got its address; and it took a step with that write and one with each behind it
unfoldable pub assigned_from : ℕ → ℕ → List SlaveState → List SlaveState
assigned_from place station [] = []
assigned_from place station (s ∷ ss) =
    steps (length (s ∷ ss)) (with_station station (steps (place + 1) s))
    ∷ assigned_from (place + 1) (station + 1) ss

-- all slaves of a line
abbrev pub assigned : ℕ → List SlaveState → List SlaveState
assigned first slaves = assigned_from 0 first slaves
