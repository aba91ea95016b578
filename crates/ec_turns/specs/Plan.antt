-- What a start does with the slaves of a line, stage by stage (IEC 61158-6-12, AL state machine; ETG.2000,
-- InitCmd): station addresses first, the mailboxes before Pre-Op, startup objects and process data before
-- Safe-Op.
use Rattle.std.specs.Prelude.{ℕ, ◌++◌, ◌&&◌, nat_lt, if◌then◌else◌, Bool, Option, None, Some}
use Rattle.std.specs.Prelude.{List, [], ◌∷◌}
use Rattle.ec_run.specs.Phase.{steps_of as steps_of_phase}
use Rattle.ec_run.specs.declared.phase.Phase.TheVariants as phases
use Rattle.ec_run.specs.declared.step.Step.{Step}
use Rattle.ec_run.specs.declared.step.Step.TheVariants.{Station, StationBehind, StationBefore}
use Rattle.ec_turns.specs.declared.plan.Plan.{Plan}
use Rattle.ec_turns.specs.declared.plan.Stage.{Stage}
use Rattle.ec_turns.specs.declared.plan.Stage.TheVariants.{Count, Behind, Stations, Init, PreOp, SafeOp, Op}

-- the link between two of so many slaves, where that is down
abbrev pub gap_at : ℕ → Option ℕ → Option ℕ
gap_at slaves None = None
gap_at slaves (Some link) = if nat_lt 0 link && nat_lt link slaves then Some link else None

abbrev pub gap_of : Plan → Option ℕ
gap_of plan = gap_at plan.slaves plan.down

-- behind a link that is down a slave takes its address by a copy that turns round there, as if the line began
-- there; before it by one that circulates, and is destroyed where it turns round
abbrev pub before_or_all : Option ℕ → List Step
before_or_all None = Station ∷ []
before_or_all (Some link) = StationBefore ∷ []

abbrev pub steps_of : Option ℕ → Stage → List Step
steps_of gap Count = []
steps_of gap Behind = StationBehind 0 ∷ []
steps_of gap Stations = before_or_all gap
steps_of gap Init = steps_of_phase phases.Init
steps_of gap PreOp = steps_of_phase phases.PreOp
steps_of gap SafeOp = steps_of_phase phases.Startup ++ steps_of_phase phases.SafeOp
steps_of gap Op = steps_of_phase phases.Op

-- which slaves a stage is done with: from the first of these places to before the second
abbrev pub first_of : Option ℕ → Stage → ℕ
first_of None stage = 0
first_of (Some link) Behind = link
first_of (Some link) Count = 0
first_of (Some link) Stations = 0
first_of (Some link) Init = 0
first_of (Some link) PreOp = 0
first_of (Some link) SafeOp = 0
first_of (Some link) Op = 0

abbrev pub end_of : ℕ → Option ℕ → Stage → ℕ
end_of slaves None stage = slaves
end_of slaves (Some link) Stations = link
end_of slaves (Some link) Count = slaves
end_of slaves (Some link) Behind = slaves
end_of slaves (Some link) Init = slaves
end_of slaves (Some link) PreOp = slaves
end_of slaves (Some link) SafeOp = slaves
end_of slaves (Some link) Op = slaves

-- the order of the stages; only over a gap there are slaves behind it
abbrev pub stage_after : Bool → Stage → Stage
stage_after has_gap Count = if has_gap then Behind else Stations
stage_after has_gap Behind = Stations
stage_after has_gap Stations = Init
stage_after has_gap Init = PreOp
stage_after has_gap PreOp = SafeOp
stage_after has_gap SafeOp = Op
stage_after has_gap Op = Op

-- their numbers
abbrev pub number_of : Stage → ℕ
number_of Count = 0
number_of Behind = 1
number_of Stations = 2
number_of Init = 3
number_of PreOp = 4
number_of SafeOp = 5
number_of Op = 6
