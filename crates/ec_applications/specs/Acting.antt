-- What applications do with their process data behind a step of their slaves: by what an application has of
-- its controller, the outputs that it is shown and the inputs that it puts (IEC 61158-4-12, sync manager,
-- buffered mode).
use Rattle.std.specs.Prelude.{ℕ, ◌-◌, Bool, ◌&&◌, nat_lt, if◌then◌else◌, List, [], ◌∷◌, ◌++◌, take, replicate}
use Rattle.std.specs.Prelude.{Option, None, Some, is_none, slice_get}
use Rattle.std.specs.Int.{w64, to_le_bytes}
use Rattle.ec_app.specs.Lending.{with_controller}
use Rattle.ec_app.specs.State.{SlaveState}
use Rattle.ec_areas.specs.Records.{sync_manager_at}
use Rattle.ec_esc.specs.Application.{outputs_of, put_inputs_fault, with_inputs}
use Rattle.ec_esc.specs.State.{ControllerState}
use Rattle.ec_regs.specs.declared.registers.TheConstants.{PROCESS_MEMORY_SIZE, SYNC_MANAGER_COUNT}
use Rattle.ec_ring.specs.Ring.{RingState, with_slave}
use Rattle.ec_applications.specs.declared.application.Application.{Application}
use Rattle.ec_applications.specs.declared.application.Behaviour.{Behaviour}
use Rattle.ec_applications.specs.declared.application.Behaviour.TheVariants.{Mirror, Count}

-- ---- inputs that are put

-- a controller whose application puts these inputs into the sync manager with a number: they stand in its
-- memory, or where they are refused all is as it was
abbrev pub put : ControllerState → ℕ → List ℕ → ControllerState
put c i bytes =
    if is_none (put_inputs_fault (sync_manager_at c.memory i) bytes) then with_inputs c i bytes else c

-- where it puts what it is shown, which may be nothing
abbrev pub put_shown : ControllerState → ℕ → Option (List ℕ) → ControllerState
put_shown c i None = c
put_shown c i (Some bytes) = put c i bytes

-- so many low bytes of a number of 64 bits, the lowest first, and zeros behind the eighth
abbrev pub low_bytes : ℕ → ℕ → List ℕ
low_bytes count number = take count (to_le_bytes w64 number ++ replicate (PROCESS_MEMORY_SIZE - 8) 0)

-- where it puts a number, as many of its bytes as the inputs have
abbrev pub put_number : ControllerState → ℕ → ℕ → ControllerState
put_number c i number = put c i (low_bytes (sync_manager_at c.memory i).length number)

-- ---- what an application does

-- the sync manager of the inputs that it puts
abbrev pub inputs_of : Behaviour → ℕ
inputs_of (Mirror inputs outputs) = inputs
inputs_of (Count inputs) = inputs

-- is this the number of a sync manager? With any other nothing is done
abbrev pub is_manager : ℕ → Bool
is_manager i = nat_lt i SYNC_MANAGER_COUNT

-- the controller behind it, the number of times being this
abbrev pub behaved : ℕ → Behaviour → ControllerState → ControllerState
behaved times (Mirror inputs outputs) c =
    if is_manager inputs && is_manager outputs then put_shown c inputs (outputs_of c outputs) else c
behaved times (Count inputs) c = if is_manager inputs then put_number c inputs times else c

-- ---- on a line

abbrev pub slave_behaved : ℕ → Behaviour → SlaveState → SlaveState
slave_behaved times behaviour s = with_controller s (behaved times behaviour s.controller)

-- the application of the slave at a place acts on that slave alone; where there is no such slave it does
-- nothing
abbrev pub placed : ℕ → Application → RingState → Option SlaveState → RingState
placed times one r None = r
placed times one r (Some s) = with_slave r one.place (slave_behaved times one.behaviour s)

abbrev pub one_acted : ℕ → Application → RingState → RingState
one_acted times one r = placed times one r (slice_get r.slaves one.place)

-- all act, one after the other
abbrev pub acted : ℕ → List Application → RingState → RingState
acted times [] r = r
acted times (one ∷ more) r = acted times more (one_acted times one r)
