-- The states of all slaves of a line at once (IEC 61158-6-12, AL control and AL status; IEC 61158-4-12,
-- broadcast read and broadcast write).
use Rattle.std.specs.Prelude.{◌≡◌, ◌==◌, ◌&&◌, ℕ, zero, suc, ◌+◌, ◌-◌, ◌++◌, Bool, true, false, List, [], ◌∷◌}
use Rattle.std.specs.Prelude.{Option, None, Some, length, slice_get, slice_index, Result, Ok, Err}
use Rattle.std.specs.Prelude.{if◌then◌else◌}
use Rattle.ec_wire.specs.Datagram.{DatagramRecord, address_of, nth}
use Rattle.ec_wire.specs.declared.command.Command.TheVariants.{Brd as BroadcastRead, Bwr}
use Rattle.ec_wire.specs.declared.kind.Kind.TheVariants.{Brd}
use Rattle.ec_regs.specs.Al.{code_of}
use Rattle.ec_regs.specs.declared.al.AlState.{AlState}
use Rattle.ec_regs.specs.declared.registers.TheConstants.{AL_CONTROL, AL_STATUS}
use Rattle.ec_map.specs.Item.{ItemRecord, new_item}
use Rattle.ec_master.specs.Ports.{Trips}
use Rattle.ec_master.specs.declared.work.TheConstants.{MAX_ITEMS}
use Rattle.ec_services.specs.Ask.{request}
use Rattle.ec_services.specs.declared.fault.MasterFault.{MasterFault}
use Rattle.ec_services.specs.declared.fault.MasterFault.TheVariants.{NoAnswer}
use Rattle.ec_run.specs.Ask.{IsPut}

-- ---- read in each cycle

-- the item that reads the AL status of all slaves
abbrev pub states_item : ItemRecord
states_item = new_item Brd AL_STATUS (0 ∷ [])

-- items with that one behind them, where there is room for one more
abbrev pub with_states : List ItemRecord → List ItemRecord
with_states items = if length items == MAX_ITEMS then items else items ++ (states_item ∷ [])

-- the byte that came back says Op, and nothing else
abbrev pub says_op : ItemRecord → Bool
says_op r = slice_index r.payload 0 == 8

abbrev pub says_op_if : Option ItemRecord → Bool
says_op_if None = false
says_op_if (Some r) = says_op r

-- the last item's does
abbrev pub tells_all_in_op : List ItemRecord → Bool
tells_all_in_op items = says_op_if (slice_get items (length items - 1))

-- ---- left at the end

-- all slaves are asked for a state, and standing errors are acknowledged
abbrev pub control_broadcast : AlState → DatagramRecord
control_broadcast state = request Bwr (address_of 0 AL_CONTROL) ((code_of state + 16) ∷ 0 ∷ [])

-- the AL status of all is read
abbrev pub states_read : DatagramRecord
states_read = request BroadcastRead (address_of 0 AL_STATUS) (0 ∷ [])

-- so many slaves answered, all of them in this state and without an error
abbrev pub is_left : AlState → ℕ → Result (List DatagramRecord) MasterFault → Bool
is_left state slaves (Err fault) = false
is_left state slaves (Ok joined) =
    ((nth joined 0).counter == slaves) && (slice_index (nth joined 0).payload 0 == code_of state)

-- all slaves are asked for a state, and their states are read, until they are in it, at most so many times
unfoldable pub Leaves : {P : Type 0} → Trips P → P → AlState → ℕ → ℕ → Result (Unit {0}) MasterFault → P
    → Type 0
Leaves trips before state slaves zero result later = (result ≡ Err NoAnswer) × (later ≡ before)
Leaves {P} trips before state slaves (suc more) result later =
    (written : Result (List DatagramRecord) MasterFault) × (between : P)
    × IsPut trips before (control_broadcast state) written between
    × (joined : Result (List DatagramRecord) MasterFault) × (after : P)
    × IsPut trips between states_read joined after
    × (elim (is_left state slaves joined) [
      | true ↦ (result ≡ Ok tt) × (later ≡ after)
      | false ↦ Leaves trips after state slaves more result later
    ])
