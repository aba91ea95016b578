-- What a master does with a slave that has left Op (IEC 61158-6-12, AL state machine).
use Rattle.std.specs.Prelude.{◌≡◌, ℕ, zero, suc, ◌==◌, Bool, true, false, not, if◌then◌else◌, List, [], ◌∷◌}
use Rattle.std.specs.Prelude.{◌||◌, Result, Ok, Err, drop, nat_lt, slice_index}
use Rattle.std.specs.Int.{w16, from_le_bytes}
use Rattle.ec_app.specs.Table.{first_fitting}
use Rattle.ec_wire.specs.Datagram.{nth}
use Rattle.ec_regs.specs.Al.{status_of}
use Rattle.ec_regs.specs.declared.al.AlState.TheVariants as state
use Rattle.ec_diag.specs.declared.located.Located.{Located}
use Rattle.ec_diag.specs.declared.located.Located.TheVariants.{Whole, One}
use Rattle.ec_master.specs.Ports.{Trips}
use Rattle.ec_services.specs.States.{status_read}
use Rattle.ec_services.specs.declared.fault.MasterFault.{MasterFault}
use Rattle.ec_run.specs.Ask.{IsReplied}
use Rattle.ec_run.specs.Phase.{AreDone, steps_from}
use Rattle.ec_run.specs.declared.ask.Reply.{Reply}
use Rattle.ec_run.specs.declared.phase.Phase.TheVariants as phase
use Rattle.ec_run.specs.declared.phase.StepFault.{StepFault}
use Rattle.ec_run.specs.declared.recovery.Outcome.{Outcome}
use Rattle.ec_run.specs.declared.recovery.Outcome.TheVariants.{Left, Brought, Failed}
use Rattle.ec_run.specs.declared.recovery.Remedy.{Remedy}
use Rattle.ec_run.specs.declared.recovery.Remedy.TheVariants.{Leave, From, Address}
use Rattle.ec_run.specs.declared.recovery.Seen.{Seen}
use Rattle.ec_run.specs.declared.recovery.Seen.TheVariants.{Unheard, Nobody, In, Error, Several}
use Rattle.ec_run.specs.declared.recovery.TheConstants.{MORE_LOOKS}
use Rattle.ec_run.specs.declared.step.Step.{Step}
use Rattle.ec_run.specs.declared.step.Step.TheVariants.{Station}
use Rattle.ec_run.specs.declared.wanted.Wanted.{Wanted}

-- a slave in Op is left alone; one below it is brought up from the next phase on, one in Pre-Op from its
-- startup objects on; one with an error from Init on, which acknowledges it; one that does not answer is
-- given its station address first; of one of which nothing was heard nothing is known
abbrev pub remedy_of : Seen → Remedy
remedy_of Unheard = Leave
remedy_of Nobody = Address
remedy_of (In s) = elim s [
  | state.Init ↦ From phase.PreOp
  | state.PreOp ↦ From phase.Startup
  | state.SafeOp ↦ From phase.Op
  | state.Op ↦ Leave
]
remedy_of (Error s code) = From phase.Init
remedy_of Several = Leave

-- ---- looks

-- what an answer to a read of AL status shows
abbrev pub seen_in : Reply → Seen
seen_in reply =
    let told = nth reply.joined 0 in
    let status = status_of (slice_index told.payload 0) in
    first_fitting
    ((not reply.heard, Unheard)
    ∷ (told.counter == 0, Nobody)
    ∷ (nat_lt 1 told.counter, Several)
    ∷ (status.error, Error status.state (from_le_bytes w16 (drop 4 told.payload)))
    ∷ []) (In status.state)

abbrev pub seen_by : Result Reply MasterFault → Result Seen MasterFault
seen_by (Err fault) = Err fault
seen_by (Ok reply) = Ok (seen_in reply)

-- AL status of the slave with a station address is read, and shows this
pub record IsLookedAt {P : Type 0} (trips : Trips P) (before : P) (station : ℕ)
    (seen : Result Seen MasterFault)
    (later : P) : Type 0 where
  pub reply : Result Reply MasterFault
  pub replied : IsReplied trips before (status_read station) reply later
  pub shows : seen ≡ seen_by reply

-- copies came back, and no slave had answered
abbrev pub is_nobody : Result Seen MasterFault → Bool
is_nobody (Err fault) = false
is_nobody (Ok seen) = elim seen [
  | Nobody ↦ true
  | _ ↦ false
]

-- a slave is looked at, and again where copies came back and it had not answered, at most so many times
unfoldable pub IsLookedFor : {P : Type 0} → Trips P → P → ℕ → ℕ → Result Seen MasterFault → P → Type 0
IsLookedFor trips before station zero seen later = IsLookedAt trips before station seen later
IsLookedFor {P} trips before station (suc more) seen later =
    (first : Result Seen MasterFault) × (between : P) × IsLookedAt trips before station first between
    × (elim (is_nobody first) [
      | true ↦ IsLookedFor trips between station more seen later
      | false ↦ (seen ≡ first) × (later ≡ between)
    ])

-- as often as a running master does
abbrev pub IsLookedUp : {P : Type 0} → Trips P → P → ℕ → Result Seen MasterFault → P → Type 0
IsLookedUp trips before station seen later = IsLookedFor trips before station MORE_LOOKS seen later

-- ---- what is done

-- does the place of each of so many slaves tell how a frame reaches it alone: the cable is whole, or broken
-- before the first one or behind the last one
abbrev pub tells_places : Located → ℕ → Bool
tells_places cable slaves = elim cable [
  | Whole ↦ true
  | One link ↦ (link == 0) || (link == slaves)
  | _ ↦ false
]

-- the steps of a remedy: from a phase on to Op; with the station address first, where its place tells a slave
-- from the others; none where nothing is done
abbrev pub steps_for : Bool → Remedy → List Step
steps_for tells_places Leave = []
steps_for tells_places (From first) = steps_from first
steps_for tells_places Address = if tells_places then Station ∷ steps_from phase.Init else []

-- what became of a slave of which this was seen and with which steps were done
abbrev pub brought_as : Seen → Result (Unit {0}) StepFault → Outcome
brought_as seen (Ok _) = Brought seen
brought_as seen (Err fault) = Failed fault

-- steps are done with a slave of which this was seen; where there are none it is left alone
abbrev pub IsSeenTo : {P : Type 0} → Trips P → P → ℕ → Wanted → Seen → List Step → Outcome → P → Type 0
IsSeenTo trips before place wanted seen [] outcome later = (outcome ≡ Left) × (later ≡ before)
IsSeenTo trips before place wanted seen (step ∷ rest) outcome later =
    (brought : Result (Unit {0}) StepFault)
    × AreDone trips before place wanted (step ∷ rest) brought later × (outcome ≡ brought_as seen brought)

-- where nothing could be seen it is left alone
abbrev pub IsDealtWith : {P : Type 0} → Trips P → P → ℕ → Wanted → Bool → Result Seen MasterFault → Outcome
    → P → Type 0
IsDealtWith trips before place wanted tells_places (Err fault) outcome later =
    (outcome ≡ Left) × (later ≡ before)
IsDealtWith trips before place wanted tells_places (Ok seen) outcome later =
    IsSeenTo trips before place wanted seen (steps_for tells_places (remedy_of seen)) outcome later

-- a slave is looked for by its station address, and the steps for what is seen are done with it, one after
-- the other until one fails; the last one of any asks for Op, and is done where the slave says that it is
-- there
pub record IsRecovered {P : Type 0} (trips : Trips P) (before : P) (place : ℕ) (wanted : Wanted)
    (tells_places : Bool) (outcome : Outcome) (later : P) : Type 0 where
  pub seen : Result Seen MasterFault
  pub between : P
  pub looked : IsLookedUp trips before wanted.station seen between
  pub dealt : IsDealtWith trips between place wanted tells_places seen outcome later
