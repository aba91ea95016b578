-- A line is brought up by turns (IEC 61158-6-12, AL management): in a turn one frame goes out. The slaves are
-- counted; then each stage is done with one slave after the other, as a slave is brought to Op again.
use Rattle.std.specs.Prelude.{◌≡◌, ℕ, ◌+◌, ◌-◌, ◌==◌, nat_lt, if◌then◌else◌, None}
use Rattle.std.specs.Prelude.{drop, length, Result, Ok, Err, IfSome, is_some}
use Rattle.ec_master.specs.Ports.{Trips}
use Rattle.ec_services.specs.Mailbox.{IsPeer}
use Rattle.ec_services.specs.declared.fault.MasterFault.{MasterFault}
use Rattle.ec_services.specs.declared.surely.Progress.{Progress}
use Rattle.ec_run.specs.Counting.{IsCounted}
use Rattle.ec_run.specs.Recovering.{RecoveryState, progress_of, resumed}
use Rattle.ec_run.specs.Turns.{IsTurn}
use Rattle.ec_run.specs.declared.phase.StepFault.{StepFault}
use Rattle.ec_run.specs.declared.recovery.Outcome.TheVariants.{Left, Brought, Failed}
use Rattle.ec_run.specs.declared.recovery.Seen.TheVariants.{Unheard}
use Rattle.ec_run.specs.declared.step.TheConstants.{MOST_READS}
use Rattle.ec_run.specs.declared.turns.Turn.{Turn}
use Rattle.ec_run.specs.declared.turns.Turn.TheVariants as turns
use Rattle.ec_run.specs.declared.wanted.Wanted.{Wanted}
use Rattle.ec_turns.specs.Plan.{end_of, first_of, gap_of, number_of, stage_after, steps_of}
use Rattle.ec_turns.specs.declared.plan.Plan.{Plan}
use Rattle.ec_turns.specs.declared.plan.Stage.{Stage}
use Rattle.ec_turns.specs.declared.plan.Stage.TheVariants.{Count}
use Rattle.ec_turns.specs.declared.start.Start.{Start}
use Rattle.ec_turns.specs.declared.start.StartFault.TheVariants.{Ask, Count as OtherCount, Step}
use Rattle.ec_turns.specs.declared.start.StartTurn.{StartTurn}
use Rattle.ec_turns.specs.declared.start.StartTurn.TheVariants.{Goes, Ended}
use Rattle.ec_turns.specs.declared.start.TheConstants.{MORE_COUNTS}

-- ---- how far it is

-- the startup object that is being written, if one is, goes to a slave with mailboxes
abbrev pub HasPeer : Start → Type 0
HasPeer s = IfSome s.first.written (λ (p : Progress). IsPeer p.peer)

abbrev pub StillPeer : StartTurn → Type 0
StillPeer (Goes s) = HasPeer s
StillPeer (Ended told) = Unit {0}

-- a stage begins with the slave at a place, with all its steps
abbrev pub with_slave : Plan → Stage → ℕ → Start
with_slave plan stage place = record {
  stage = stage;
  place = place;
  left = length (steps_of (gap_of plan) stage);
  first = record { asked = 0; unanswered = 0; written = None };
}

abbrev pub at_stage : Plan → Stage → Start
at_stage plan stage = with_slave plan stage (first_of (gap_of plan) stage)

-- the steps that are left with the slave, which a stage that gives addresses behind a gap tells by its place
-- from there on
abbrev pub recovery_of : Plan → Start → RecoveryState
recovery_of plan s =
    let steps = steps_of (gap_of plan) s.stage in
    resumed (s.place - first_of (gap_of plan) s.stage) Unheard (drop (length steps - s.left) steps) s.first
    MOST_READS

-- ---- how far it is behind a turn

-- behind the last slave of a stage the next stage begins, and behind the last stage the start is done
abbrev pub behind_stage : Plan → Start → StartTurn
behind_stage plan s =
    if nat_lt (number_of s.stage) (number_of plan.last)
    then Goes (at_stage plan (stage_after (is_some (gap_of plan)) s.stage))
    else Ended (Ok tt)

abbrev pub behind_slave : Plan → Start → StartTurn
behind_slave plan s =
    if nat_lt (s.place + 1) (end_of plan.slaves (gap_of plan) s.stage)
    then Goes (with_slave plan s.stage (s.place + 1))
    else behind_stage plan s

-- a fault names the slave by its place on the line
abbrev pub named : Start → StepFault → StepFault
named s fault = record fault { place = s.place }

abbrev pub behind : Plan → Start → Turn → StartTurn
behind plan s (turns.Goes r) = Goes (record s { left = length r.steps; first = progress_of r })
behind plan s (turns.Ended (Failed fault)) = Ended (Err (Step (named s fault)))
behind plan s (turns.Ended Left) = behind_slave plan s
behind plan s (turns.Ended (Brought seen)) = behind_slave plan s

-- as many slaves as there are to be end the count, and so do other counts, ten in a row
abbrev pub counted_as : Plan → Start → ℕ → StartTurn
counted_as plan s found =
    if found == plan.slaves then behind_stage plan s
    else if nat_lt s.first.asked MORE_COUNTS
    then Goes (record s { first = record s.first { asked = s.first.asked + 1 } })
    else Ended (Err (OtherCount found))

abbrev pub counted : Plan → Start → Result ℕ MasterFault → StartTurn
counted plan s (Ok found) = counted_as plan s found
counted plan s (Err fault) = Ended (Err (Ask fault))

-- ---- a turn

abbrev pub IsCountTurn : {P : Type 0} → Trips P → P → Plan → Start → StartTurn → P → Type 0
IsCountTurn trips before plan s turn later =
    (found : Result ℕ MasterFault) × IsCounted trips before found later × (turn ≡ counted plan s found)

abbrev pub IsSlaveTurn : {P : Type 0} → Trips P → P → Plan → Wanted → Start → StartTurn → P → Type 0
IsSlaveTurn trips before plan wanted s turn later =
    (did : Turn) × IsTurn trips before wanted (recovery_of plan s) did later × (turn ≡ behind plan s did)

-- with a slave that is to be told this
abbrev pub IsStartTurn : {P : Type 0} → Trips P → P → Plan → Wanted → Start → StartTurn → P → Type 0
IsStartTurn trips before plan wanted s turn later = elim s.stage [
  | Count ↦ IsCountTurn trips before plan s turn later
  | _ ↦ IsSlaveTurn trips before plan wanted s turn later
]
