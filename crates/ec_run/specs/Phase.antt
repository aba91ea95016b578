-- The slaves of a line are brought up phase by phase (IEC 61158-6-12, AL state machine; ETG.2000, InitCmd):
-- the mailboxes stand before Pre-Op, startup objects are written there, and the areas of process data and the
-- FMMUs stand before Safe-Op.
use Rattle.std.specs.Prelude.{◌≡◌, ℕ, ◌+◌, ◌++◌, List, [], ◌∷◌, Result, Ok, Err}
use Rattle.ec_regs.specs.declared.al.AlState.{AlState}
use Rattle.ec_regs.specs.declared.al.AlState.TheVariants as state
use Rattle.ec_master.specs.Ports.{Trips}
use Rattle.ec_services.specs.declared.fault.MasterFault.{MasterFault}
use Rattle.ec_run.specs.Step.{IsTried}
use Rattle.ec_run.specs.declared.phase.Phase.{Phase}
use Rattle.ec_run.specs.declared.phase.Phase.TheVariants.{Init, PreOp, Startup, SafeOp, Op}
use Rattle.ec_run.specs.declared.phase.StepFault.{StepFault}
use Rattle.ec_run.specs.declared.step.Step.{Step}
use Rattle.ec_run.specs.declared.step.Step.TheVariants.{SyncManager, Startup as StartupStep, Fmmu, State}
use Rattle.ec_run.specs.declared.step.TheConstants.{MORE_TRIES}
use Rattle.ec_run.specs.declared.wanted.Wanted.{Wanted}

-- the steps of a phase with each slave, in their order
abbrev pub steps_of : Phase → List Step
steps_of Init = State state.Init ∷ []
steps_of PreOp = SyncManager 0 ∷ SyncManager 1 ∷ State state.PreOp ∷ []
steps_of Startup =
    StartupStep 0 ∷ StartupStep 1 ∷ StartupStep 2 ∷ StartupStep 3 ∷ StartupStep 4 ∷ StartupStep 5
    ∷ StartupStep 6 ∷ StartupStep 7 ∷ StartupStep 8 ∷ StartupStep 9 ∷ StartupStep 10 ∷ StartupStep 11
    ∷ StartupStep 12 ∷ StartupStep 13 ∷ StartupStep 14 ∷ StartupStep 15
    ∷ []
steps_of SafeOp =
    SyncManager 2 ∷ SyncManager 3 ∷ SyncManager 4 ∷ SyncManager 5 ∷ SyncManager 6 ∷ SyncManager 7
    ∷ Fmmu 0 ∷ Fmmu 1 ∷ Fmmu 2 ∷ Fmmu 3 ∷ Fmmu 4 ∷ Fmmu 5 ∷ Fmmu 6 ∷ Fmmu 7
    ∷ State state.SafeOp ∷ []
steps_of Op = State state.Op ∷ []

-- the steps of a phase and of all that follow it
abbrev pub steps_from : Phase → List Step
steps_from Init = steps_of Init ++ steps_of PreOp ++ steps_of Startup ++ steps_of SafeOp ++ steps_of Op
steps_from PreOp = steps_of PreOp ++ steps_of Startup ++ steps_of SafeOp ++ steps_of Op
steps_from Startup = steps_of Startup ++ steps_of SafeOp ++ steps_of Op
steps_from SafeOp = steps_of SafeOp ++ steps_of Op
steps_from Op = steps_of Op

-- the state in which a slave is after a phase
abbrev pub state_after : Phase → AlState
state_after Init = state.Init
state_after PreOp = state.PreOp
state_after Startup = state.PreOp
state_after SafeOp = state.SafeOp
state_after Op = state.Op

-- steps with the slave at a place are done one after the other until one fails, with this fault
unfoldable pub AreDone : {P : Type 0} → Trips P → P → ℕ → Wanted → List Step → Result (Unit {0}) StepFault → P
    → Type 0
AreDone trips before place wanted [] result later = (result ≡ Ok tt) × (later ≡ before)
AreDone {P} trips before place wanted (step ∷ rest) result later =
    (did : Result (Unit {0}) MasterFault) × (between : P)
    × IsTried trips before place wanted step MORE_TRIES did between
    × (elim did [
      | Err fault ↦ (result
          ≡ Err (record { place = place; station = wanted.station; step = step; fault = fault }))
          × (later ≡ between)
      | Ok _ ↦ AreDone trips between place wanted rest result later
    ])

-- steps are done with each of these slaves, one slave after the other until a step fails; the first of them
-- stands at this place
unfoldable pub Brings : {P : Type 0} → Trips P → P → ℕ → List Wanted → List Step → Result (Unit {0}) StepFault
    → P → Type 0
Brings trips before place [] steps result later = (result ≡ Ok tt) × (later ≡ before)
Brings {P} trips before place (wanted ∷ rest) steps result later =
    (did : Result (Unit {0}) StepFault) × (between : P)
    × AreDone trips before place wanted steps did between
    × (elim did [
      | Err fault ↦ (result ≡ Err fault) × (later ≡ between)
      | Ok _ ↦ Brings trips between (place + 1) rest steps result later
    ])
