-- What is done to a line between its rounds, and why it is refused: links that are on the line (IEC
-- 61158-4-12, a slave's ports), process memory and AL status of one of its slaves (IEC 61158-6-12, AL
-- status).
use Rattle.std.specs.Prelude.{◌≡◌, ℕ, ◌+◌, nat_lt, true, if◌then◌else◌, Option, None, Some, List, length}
use Rattle.std.specs.Prelude.{[], ◌∷◌, slice_get}
use Rattle.ec_app.specs.AlStep.{with_state}
use Rattle.ec_app.specs.Lending.{with_controller}
use Rattle.ec_app.specs.State.{SlaveState}
use Rattle.std.specs.Int.{w16, to_le_bytes}
use Rattle.ec_areas.specs.Ranges.{has_sii}
use Rattle.ec_esc.specs.Application.{al_status, with_al, with_registers}
use Rattle.ec_esc.specs.State.{ControllerState, IsFresh, with_bytes, word_at}
use Rattle.ec_regs.specs.declared.registers.TheConstants.{CONTROLLER_TYPE, STATION_ALIAS}
use Rattle.ec_regs.specs.declared.al.AlState.{AlState}
use Rattle.ec_regs.specs.declared.al.AlState.TheVariants.{Init, PreOp, SafeOp, Op}
use Rattle.ec_regs.specs.declared.registers.TheConstants.{MEMORY_SIZE, PROCESS_MEMORY}
use Rattle.ec_ring.specs.Ring.{with_slave}
use Rattle.ec_ring.specs.declared.links.Links.{Links}
use Rattle.ecat_serve.specs.State.{ServedState}
use Rattle.ecat_serve.specs.declared.bench.BenchFault.{BenchFault}
use Rattle.ecat_serve.specs.declared.bench.BenchFault.TheVariants.{NoLink, NoSlave, OutsideMemory}

-- the same line under these links
abbrev pub with_links : ServedState → Links → ServedState
with_links s links = record s { ring = record s.ring { links = links } }

-- the slave at a place is changed, and all else is as before
pub record Changes (before : ServedState) (place : ℕ) (change : SlaveState → SlaveState) (later : ServedState)
    : Type 0 where
  pub slave : SlaveState
  pub there : slice_get before.ring.slaves place ≡ Some slave
  pub leaves : later ≡ record before { ring = with_slave before.ring place (change slave) }

-- a slave whose process memory has these bytes from an address on, and shows them
abbrev pub loaded : ℕ → List ℕ → SlaveState → SlaveState
loaded address bytes slave = with_controller slave (with_bytes slave.controller address bytes)

-- a slave in this state, with no error
abbrev pub put_in : AlState → SlaveState → SlaveState
put_in state slave = with_controller slave (with_state slave.controller state)

-- the state that an application leaves for where it finds an error: none stays in Op
abbrev pub fallen : AlState → AlState
fallen Op = SafeOp
fallen SafeOp = SafeOp
fallen PreOp = PreOp
fallen Init = Init

-- a slave whose application found an error, which AL status and its code tell
abbrev pub with_error : ℕ → SlaveState → SlaveState
with_error code slave =
    with_controller slave (with_al slave.controller (record {
      state = fallen (al_status slave.controller).state;
      error = true;
    }) code)

-- ---- power that comes back

-- a device tells what it told, an IP core and its alias, and of a plain slave nothing is left
abbrev pub telling_again : ControllerState → ControllerState → ControllerState
telling_again before fresh =
    if has_sii before.memory then
    with_registers (with_registers fresh CONTROLLER_TYPE (4 ∷ 0 ∷ 0 ∷ 0 ∷ 8 ∷ 8 ∷ 8 ∷ 15 ∷ 0 ∷ 0 ∷ []))
    STATION_ALIAS (to_le_bytes w16 (word_at before.memory STATION_ALIAS))
    else fresh

-- a controller begins anew: a fresh one without a station, which tells of itself as the one before did
pub record IsBegun (before later : ControllerState) : Type 0 where
  pub fresh : ControllerState
  pub is_fresh : IsFresh 0 fresh
  pub tells : later ≡ telling_again before fresh

-- ---- what is refused

-- a line of n slaves has the links 0 to n
abbrev pub link_fault : ServedState → ℕ → Option BenchFault
link_fault s k = if nat_lt (length s.ring.slaves) k then Some NoLink else None

-- and the slaves 0 to n - 1
abbrev pub slave_fault : ServedState → ℕ → Option BenchFault
slave_fault s place = if nat_lt place (length s.ring.slaves) then None else Some NoSlave

-- bytes lie in process memory
abbrev pub bytes_fault : ℕ → List ℕ → Option BenchFault
bytes_fault address bytes =
    if nat_lt address PROCESS_MEMORY then Some OutsideMemory else
    (if nat_lt MEMORY_SIZE (address + length bytes) then Some OutsideMemory else None)

-- the bytes of a slave that is there
abbrev pub load_fault : ServedState → ℕ → ℕ → List ℕ → Option BenchFault
load_fault s place address bytes =
    if nat_lt place (length s.ring.slaves) then bytes_fault address bytes else Some NoSlave
