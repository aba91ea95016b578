-- A slave is brought up step by step (IEC 61158-6-12, AL management; IEC 61158-4-12, sync manager and FMMU
-- entities): it gets its station address, its records are written and read back, its startup objects are
-- written, it is asked for a state.
use Rattle.std.specs.Prelude.{◌≡◌, ℕ, zero, suc, ◌+◌, ◌-◌, ◌*◌, ◌%◌, ◌==◌, ◌&&◌, nat_lt, Bool, true, false}
use Rattle.std.specs.Prelude.{None, Some, List, [], ◌∷◌, length, take, replicate, Result, Ok, Err, not}
use Rattle.std.specs.Prelude.{Option, if◌then◌else◌, nat_eq, slice_get, slice_index}
use Rattle.std.specs.Cmp.Lexicographic.{pointwise}
use Rattle.ec_wire.specs.Datagram.{DatagramRecord, address_of}
use Rattle.ec_wire.specs.declared.command.Command.TheVariants.{Fprd, Fpwr}
use Rattle.ec_regs.specs.Fmmu.{fmmu_bytes}
use Rattle.ec_regs.specs.SyncMan.{sync_man_bytes}
use Rattle.ec_regs.specs.declared.fmmu.Fmmu.{Fmmu}
use Rattle.ec_regs.specs.declared.registers.TheConstants.{FMMU_BASE, FMMU_COUNT, FMMU_SIZE}
use Rattle.ec_regs.specs.declared.registers.TheConstants.{SYNC_MANAGER_ACTIVATE, SYNC_MANAGER_BASE}
use Rattle.ec_regs.specs.declared.registers.TheConstants.{SYNC_MANAGER_COUNT, SYNC_MANAGER_SIZE}
use Rattle.ec_regs.specs.declared.sync_man.SyncMan.{SyncMan}
use Rattle.ec_app.specs.Table.{first_fitting}
use Rattle.ec_master.specs.Ports.{Trips}
use Rattle.ec_services.specs.Ask.{request, Answer, told_by, IsAsked, Question, Talks, write}
use Rattle.ec_services.specs.States.{IsRequested}
use Rattle.ec_services.specs.Stations.{station_write}
use Rattle.ec_services.specs.declared.fault.MasterFault.{MasterFault}
use Rattle.ec_services.specs.declared.fault.MasterFault.TheVariants.{NoSlave, BadAnswer}
use Rattle.ec_run.specs.StartupObjects.{startup_peer, WritesStartup}
use Rattle.ec_run.specs.declared.step.Step.{Step}
use Rattle.ec_run.specs.declared.step.Step.TheVariants.{Station, StationBehind, StationBefore}
use Rattle.ec_run.specs.declared.step.Step.TheVariants.{SyncManager, Fmmu as FmmuRecord, Startup, State}
use Rattle.ec_run.specs.declared.step.TheConstants.{MOST_READS, AREA_BYTES, SWITCH_AT}
use Rattle.ec_run.specs.declared.wanted.TheConstants.{MAX_STARTUP}
use Rattle.ec_run.specs.declared.wanted.Wanted.{Wanted}

-- ---- records of registers

-- bytes are written to a run of registers of one slave
abbrev pub register_write : ℕ → ℕ → List ℕ → DatagramRecord
register_write station ado bytes = request Fpwr (address_of station ado) bytes

-- what a read of a run of registers decides that is to hold these bytes: only that it does not
abbrev pub holds_decides : List ℕ → Answer → Result (Option (Unit {0})) MasterFault
holds_decides bytes (Err fault) = Err fault
holds_decides bytes (Ok back) =
    first_fitting
    (((told_by back).counter == 0, Err NoSlave)
    ∷ (nat_lt 1 (told_by back).counter, Err BadAnswer)
    ∷ (not (pointwise nat_eq (told_by back).payload bytes), Err BadAnswer)
    ∷ []) (Ok None)

abbrev pub holds : ℕ → ℕ → List ℕ → Question (Unit {0})
holds station ado bytes = record {
  sent = request Fprd (address_of station ado) (replicate (length bytes) 0);
  decides = holds_decides bytes;
}

-- a sync manager is switched off, its record is written, and its area and its switch are read back
abbrev pub manager_talk : ℕ → ℕ → List ℕ → List (Question (Unit {0}))
manager_talk station n bytes =
    let at = SYNC_MANAGER_BASE + SYNC_MANAGER_SIZE * n in
    write (register_write station (at + SYNC_MANAGER_ACTIVATE) (0 ∷ []))
    ∷ write (register_write station at bytes)
    ∷ holds station at (take AREA_BYTES bytes)
    ∷ holds station (at + SYNC_MANAGER_ACTIVATE) (slice_index bytes SWITCH_AT ∷ [])
    ∷ []

-- the record of an FMMU is written and read back
abbrev pub fmmu_talk : ℕ → ℕ → List ℕ → List (Question (Unit {0}))
fmmu_talk station n bytes =
    let at = FMMU_BASE + FMMU_SIZE * n in
    write (register_write station at bytes) ∷ holds station at bytes ∷ []

-- ---- station addresses

-- the slave at a place is given its station address by a frame that circulates or does not
abbrev pub address_write : ℕ → ℕ → Bool → DatagramRecord
address_write place station circulating = record (station_write place station) { circulating = circulating }

-- what a write decides that one slave or two may take: only that none did, or more
abbrev pub behind_decides : Answer → Result (Option (Unit {0})) MasterFault
behind_decides (Err fault) = Err fault
behind_decides (Ok back) =
    first_fitting
    (((told_by back).counter == 0, Err NoSlave)
    ∷ (nat_lt 2 (told_by back).counter, Err BadAnswer)
    ∷ []) (Ok None)

-- the slave so far behind a broken link is given its station address, and the one so far from port A takes it
-- too
abbrev pub behind_question : ℕ → ℕ → Question (Unit {0})
behind_question distance station = record {
  sent = station_write distance station;
  decides = behind_decides;
}

-- ---- steps

-- numbers of records and of startup objects begin anew where a slave has no more of them
abbrev pub manager_number : ℕ → ℕ
manager_number number = number % SYNC_MANAGER_COUNT

abbrev pub fmmu_number : ℕ → ℕ
fmmu_number number = number % FMMU_COUNT

abbrev pub startup_number : ℕ → ℕ
startup_number number = number % MAX_STARTUP

-- the record of a sync manager or of an FMMU that is there is set
abbrev pub SetsManager : {P : Type 0} → Trips P → P → ℕ → ℕ → Option SyncMan
    → Result (Unit {0}) MasterFault → P
    → Type 0
SetsManager trips before station n None result later = ⊥
SetsManager trips before station n (Some s) result later =
    Talks trips before (manager_talk station n (sync_man_bytes s)) (Ok tt) result later

abbrev pub SetsFmmu : {P : Type 0} → Trips P → P → ℕ → ℕ → Option Fmmu → Result (Unit {0}) MasterFault → P
    → Type 0
SetsFmmu trips before station n None result later = ⊥
SetsFmmu trips before station n (Some f) result later =
    Talks trips before (fmmu_talk station n (fmmu_bytes f)) (Ok tt) result later

-- ---- records, a question at a time

-- what an answer to a question of a step tells, behind the last one that it is done
abbrev pub told_behind :
    Bool → Result (Option (Unit {0})) MasterFault → Result (Option (Unit {0})) MasterFault
told_behind last (Err fault) = Err fault
told_behind last (Ok decided) = if last then Ok (Some tt) else Ok None

-- a question of a step is asked, the last one or another
pub record IsPart {P : Type 0} (trips : Trips P) (before : P) (q : Question (Unit {0})) (last : Bool)
    (told : Result (Option (Unit {0})) MasterFault) (later : P) : Type 0 where
  pub decided : Result (Option (Unit {0})) MasterFault
  pub asked : IsAsked trips before q decided later
  pub tells : told ≡ told_behind last decided

-- those by which a sync manager is set, by how many were asked, and whether it is the last one
abbrev pub manager_question : ℕ → ℕ → List ℕ → ℕ → Question (Unit {0})
manager_question station n bytes asked =
    let at = SYNC_MANAGER_BASE + SYNC_MANAGER_SIZE * n in
    if asked == 0 then write (register_write station (at + SYNC_MANAGER_ACTIVATE) (0 ∷ []))
    else if asked == 1 then write (register_write station at bytes)
    else if asked == 2 then holds station at (take AREA_BYTES bytes)
    else holds station (at + SYNC_MANAGER_ACTIVATE) (slice_index bytes SWITCH_AT ∷ [])

abbrev pub is_last_of_manager : ℕ → Bool
is_last_of_manager asked = not (asked == 0) && (not (asked == 1) && not (asked == 2))

-- those by which an FMMU is set
abbrev pub fmmu_question : ℕ → ℕ → List ℕ → ℕ → Question (Unit {0})
fmmu_question station n bytes asked =
    let at = FMMU_BASE + FMMU_SIZE * n in
    if asked == 0 then write (register_write station at bytes) else holds station at bytes

abbrev pub is_last_of_fmmu : ℕ → Bool
is_last_of_fmmu asked = not (asked == 0)

-- the next of them is asked, of a record that is there
abbrev pub SetsManagerOn : {P : Type 0} → Trips P → P → ℕ → ℕ → Option SyncMan → ℕ
    → Result (Option (Unit {0})) MasterFault → P → Type 0
SetsManagerOn trips before station n None asked told later = ⊥
SetsManagerOn trips before station n (Some s) asked told later =
    IsPart trips before (manager_question station n (sync_man_bytes s) asked) (is_last_of_manager asked) told
    later

abbrev pub SetsFmmuOn : {P : Type 0} → Trips P → P → ℕ → ℕ → Option Fmmu → ℕ
    → Result (Option (Unit {0})) MasterFault → P → Type 0
SetsFmmuOn trips before station n None asked told later = ⊥
SetsFmmuOn trips before station n (Some f) asked told later =
    IsPart trips before (fmmu_question station n (fmmu_bytes f) asked) (is_last_of_fmmu asked) told later

-- ---- steps as a whole

-- a step with the slave at a place is done once
abbrev pub IsDone : {P : Type 0} → Trips P → P → ℕ → Wanted → Step → Result (Unit {0}) MasterFault → P
    → Type 0
IsDone trips before place wanted Station result later =
    Talks trips before (write (address_write place wanted.station false) ∷ []) (Ok tt) result later
IsDone trips before place wanted (StationBehind first) result later =
    Talks trips before (behind_question ((place + (65536 - first)) % 65536) wanted.station ∷ [])
    (Ok tt) result
    later
IsDone trips before place wanted StationBefore result later =
    Talks trips before (write (address_write place wanted.station true) ∷ []) (Ok tt) result later
IsDone trips before place wanted (SyncManager n) result later =
    SetsManager trips before wanted.station (manager_number n)
    (slice_get wanted.managers (manager_number n))
    result later
IsDone trips before place wanted (FmmuRecord n) result later =
    SetsFmmu trips before wanted.station (fmmu_number n) (slice_get wanted.fmmus (fmmu_number n)) result later
IsDone trips before place wanted (Startup n) result later =
    WritesStartup trips before (startup_peer wanted (startup_number n))
    (slice_get wanted.startup (startup_number n)) result later
IsDone trips before place wanted (State state) result later =
    IsRequested trips before wanted.station state MOST_READS result later

-- did some slave answer; where none did, a frame may have been lost
abbrev pub is_answered : Result (Unit {0}) MasterFault → Bool
is_answered (Ok _) = true
is_answered (Err fault) = elim fault [
  | NoSlave ↦ false
  | _ ↦ true
]

-- a step is done, and again where no slave answered, at most so many times
unfoldable pub IsTried : {P : Type 0} → Trips P → P → ℕ → Wanted → Step → ℕ
    → Result (Unit {0}) MasterFault → P
    → Type 0
IsTried trips before place wanted step zero result later = IsDone trips before place wanted step result later
IsTried {P} trips before place wanted step (suc more) result later =
    (first : Result (Unit {0}) MasterFault) ×
    (between : P) × IsDone trips before place wanted step first between
    × (elim (is_answered first) [
      | true ↦ (result ≡ first) × (later ≡ between)
      | false ↦ IsTried trips between place wanted step more result later
    ])
