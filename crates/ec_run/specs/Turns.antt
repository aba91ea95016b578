-- A slave is brought to Op again in turns, one behind each cycle (IEC 61158-6-12, AL management): in a turn
-- one frame goes out. So a state is asked for in one turn, and AL status is read once in each turn behind it;
-- a record is written in one turn and read back in another; and a startup object is written a trip at a time.
use Rattle.std.specs.Prelude.{◌≡◌, ℕ, zero, suc, ◌+◌, ◌-◌, nat_lt, Bool, true, false, if◌then◌else◌, List}
use Rattle.std.specs.Prelude.{[], ◌∷◌, Option}
use Rattle.std.specs.Prelude.{None, Some, Result, Ok, Err, slice_get}
use Rattle.ec_regs.specs.declared.al.AlState.{AlState}
use Rattle.ec_master.specs.Ports.{Trips}
use Rattle.ec_services.specs.Ask.{IsAsked, write}
use Rattle.ec_services.specs.States.{control_write, status_question}
use Rattle.ec_services.specs.declared.fault.MasterFault.{MasterFault}
use Rattle.ec_services.specs.declared.fault.MasterFault.TheVariants.{NoSlave, NoAnswer}
use Rattle.ec_services.specs.declared.surely.Progress.{Progress}
use Rattle.ec_run.specs.Recovering.{RecoveryState}
use Rattle.ec_run.specs.StartupObjects.{WritesStartupOn, startup_peer}
use Rattle.ec_run.specs.Step.{IsDone, SetsFmmuOn, SetsManagerOn, fmmu_number, manager_number, startup_number}
use Rattle.ec_run.specs.declared.objects.TheConstants.{STARTUP_TRIPS}
use Rattle.ec_run.specs.declared.recovery.Outcome.TheVariants.{Left, Brought, Failed}
use Rattle.ec_run.specs.declared.recovery.Seen.{Seen}
use Rattle.ec_run.specs.declared.step.Step.{Step}
use Rattle.ec_run.specs.declared.step.Step.TheVariants.{Station, StationBehind, StationBefore}
use Rattle.ec_run.specs.declared.step.Step.TheVariants.{SyncManager, Fmmu, Startup, State}
use Rattle.ec_run.specs.declared.step.TheConstants.{MORE_QUESTIONS, MORE_TRIES}
use Rattle.ec_run.specs.declared.turns.Turn.{Turn}
use Rattle.ec_run.specs.declared.turns.Turn.TheVariants.{Goes, Ended}
use Rattle.ec_run.specs.declared.wanted.StartupObject.{StartupObject}
use Rattle.ec_run.specs.declared.wanted.Wanted.{Wanted}

-- ---- what is told in a turn: that the step is done, that the slave has not come to it yet, or a fault
abbrev pub Told : Type 0
Told = Result (Option (Unit {0})) MasterFault

-- a step that is done at once
abbrev pub done_at_once : Result (Unit {0}) MasterFault → Told
done_at_once (Ok _) = Ok (Some tt)
done_at_once (Err fault) = Err fault

abbrev pub IsDoneAtOnce : {P : Type 0} → Trips P → P → ℕ → Wanted → Step → Told → P → Type 0
IsDoneAtOnce trips before place wanted step told later =
    (did : Result (Unit {0}) MasterFault) × IsDone trips before place wanted step did later
    × (told ≡ done_at_once did)

-- a state is asked for, or read where it was asked for already
abbrev pub IsStateTurn : {P : Type 0} → Trips P → P → ℕ → AlState → ℕ → Told → P → Type 0
IsStateTurn trips before station state zero told later =
    IsAsked trips before (write (control_write station state)) told later
IsStateTurn trips before station state (suc asked) told later =
    IsAsked trips before (status_question station state) told later

-- so it is with a state; the next question is asked by which a record is set, and a trip is made by which a
-- startup object is written; every other step is one question
abbrev pub IsTaken : {P : Type 0} → Trips P → P → Wanted → RecoveryState → Step → Told → RecoveryState → P
    → Type 0
IsTaken trips before wanted r (State state) told r_later later =
    IsStateTurn trips before wanted.station state r.asked told later × (r_later ≡ r)
IsTaken trips before wanted r (Startup n) told r_later later =
    (written : Option Progress)
    × WritesStartupOn trips before (startup_peer wanted (startup_number n))
    (slice_get wanted.startup (startup_number n)) r.written told written later
    × (r_later ≡ record r { written = written })
IsTaken trips before wanted r Station told r_later later =
    IsDoneAtOnce trips before r.place wanted Station told later × (r_later ≡ r)
IsTaken trips before wanted r (StationBehind first) told r_later later =
    IsDoneAtOnce trips before r.place wanted (StationBehind first) told later × (r_later ≡ r)
IsTaken trips before wanted r StationBefore told r_later later =
    IsDoneAtOnce trips before r.place wanted StationBefore told later × (r_later ≡ r)
IsTaken trips before wanted r (SyncManager n) told r_later later =
    SetsManagerOn trips before wanted.station (manager_number n)
    (slice_get wanted.managers (manager_number n)) r.asked told later
    × (r_later ≡ r)
IsTaken trips before wanted r (Fmmu n) told r_later later =
    SetsFmmuOn trips before wanted.station (fmmu_number n) (slice_get wanted.fmmus (fmmu_number n)) r.asked
    told later
    × (r_later ≡ r)

-- ---- how far it is then

-- a slave that is brought to Op again, where there are steps for it, by so many reads of a state at the most
abbrev pub begun : ℕ → Seen → ℕ → List Step → Option RecoveryState
begun place seen reads [] = None
begun place seen reads (step ∷ rest) = Some (record {
  place = place;
  seen = seen;
  steps = step ∷ rest;
  asked = 0;
  unanswered = 0;
  written = None;
  reads = reads;
})

abbrev pub failed_in : RecoveryState → ℕ → Step → MasterFault → Turn
failed_in r station step fault =
    Ended (Failed (record { place = r.place; station = station; step = step; fault = fault }))

-- the steps behind the first one are left where that is done; behind the last one the slave is brought
abbrev pub done_in : RecoveryState → List Step → Turn
done_in r [] = Ended (Brought r.seen)
done_in r (step ∷ rest) =
    Goes (record r { steps = step ∷ rest; asked = 0; unanswered = 0; written = None })

-- how many turns a step may take behind its first one: a state is asked for in one and then read so often, a
-- startup object is written by so many trips, and of all other steps a sync manager has the most questions
abbrev pub more_turns : ℕ → Step → ℕ
more_turns reads (State state) = reads
more_turns reads (Startup n) = STARTUP_TRIPS - 1
more_turns reads Station = MORE_QUESTIONS
more_turns reads (StationBehind first) = MORE_QUESTIONS
more_turns reads StationBefore = MORE_QUESTIONS
more_turns reads (SyncManager n) = MORE_QUESTIONS
more_turns reads (Fmmu n) = MORE_QUESTIONS

-- the step is done; or it goes on, as long as it was not tried too often; or it failed
abbrev pub turn_of : RecoveryState → ℕ → Step → List Step → Told → Turn
turn_of r station step rest (Ok (Some _)) = done_in r rest
turn_of r station step rest (Ok None) =
    if nat_lt r.asked (more_turns r.reads step) then Goes (record r { asked = r.asked + 1 })
    else failed_in r station step NoAnswer
turn_of r station step rest (Err fault) = elim fault [
  | NoSlave ↦ if nat_lt r.unanswered MORE_TRIES then Goes (record r { unanswered = r.unanswered + 1 })
      else failed_in r station step NoSlave
  | other ↦ failed_in r station step other
]

-- does no startup object stand at a place of the list
abbrev pub is_empty_at : Option (Option StartupObject) → Bool
is_empty_at None = false
is_empty_at (Some None) = true
is_empty_at (Some (Some object)) = false

-- a step that writes a startup object has nothing to do with a slave that has none of that number
abbrev pub is_idle : Wanted → Step → Bool
is_idle wanted (Startup n) = is_empty_at (slice_get wanted.startup (startup_number n))
is_idle wanted Station = false
is_idle wanted (StationBehind first) = false
is_idle wanted StationBefore = false
is_idle wanted (SyncManager n) = false
is_idle wanted (Fmmu n) = false
is_idle wanted (State state) = false

-- the steps from the first one on that has something to do
unfoldable pub due : Wanted → List Step → List Step
due wanted [] = []
due wanted (step ∷ rest) = if is_idle wanted step then due wanted rest else step ∷ rest

-- a turn with a slave that is to be told this: the first of the steps that are due is taken
abbrev pub IsTurnWith : {P : Type 0} → Trips P → P → Wanted → RecoveryState → List Step → Turn → P → Type 0
IsTurnWith trips before wanted r [] turn later = (turn ≡ Ended Left) × (later ≡ before)
IsTurnWith trips before wanted r (step ∷ rest) turn later =
    (told : Told) × (r_later : RecoveryState) × IsTaken trips before wanted r step told r_later later
    × (turn ≡ turn_of r_later wanted.station step rest told)

abbrev pub IsTurn : {P : Type 0} → Trips P → P → Wanted → RecoveryState → Turn → P → Type 0
IsTurn trips before wanted r turn later = IsTurnWith trips before wanted r (due wanted r.steps) turn later
