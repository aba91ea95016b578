-- The start-up of a line by turns (IEC 61158-6-12, AL state machine; ETG.2000, InitCmd), in the numbers in
-- which a caller keeps it: which frame goes out next, and how it stands behind what came back of that.
use Rattle.std.specs.Prelude.{◌≡◌, ◌≢◌, ◌⊎◌, ℕ, ◌==◌, ◌&&◌, ◌||◌, nat_lt, if◌then◌else◌, Bool, true, false}
use Rattle.std.specs.Prelude.{Option, None, Some, List, length, slice_get, Ok, Err}
use Rattle.ec_wire.specs.Datagram.{DatagramRecord}
use Rattle.ec_wire.specs.declared.fault.Form.{Form}
use Rattle.ec_regs.specs.Al.{code_of}
use Rattle.ec_check.specs.declared.records.Records.{Records}
use Rattle.ec_ring.specs.declared.links.TheConstants.{MAX_SLAVES}
use Rattle.ec_ring.specs.declared.weather.Came.{Came}
use Rattle.ec_run.specs.declared.step.Step.{Step}
use Rattle.ec_run.specs.declared.step.Step.TheVariants.{Station, StationBehind, StationBefore}
use Rattle.ec_run.specs.declared.step.Step.TheVariants.{SyncManager, Fmmu, Startup as StartupStep, State}
use Rattle.ec_run.specs.declared.wanted.Wanted.{Wanted}
use Rattle.ec_services.specs.declared.fault.MasterFault.{MasterFault}
use Rattle.ec_services.specs.declared.fault.MasterFault.TheVariants.{Stranger}
use Rattle.ec_services.specs.declared.surely.Progress.{Progress}
use Rattle.ec_turns.specs.Held.{HeldState, HeldTrips, giving}
use Rattle.ec_turns.specs.Plan.{number_of as stage_number}
use Rattle.ec_turns.specs.Sent.{IsStartFrame}
use Rattle.ec_turns.specs.Start.{IsStartTurn, at_stage}
use Rattle.ec_turns.specs.declared.plan.Plan.{Plan}
use Rattle.ec_turns.specs.declared.plan.Stage.{Stage}
use Rattle.ec_turns.specs.declared.plan.Stage.TheVariants as stages
use Rattle.ec_turns.specs.declared.start.Start.{Start as Course}
use Rattle.ec_turns.specs.declared.start.StartFault.{StartFault}
use Rattle.ec_turns.specs.declared.start.StartFault.TheVariants as faults
use Rattle.ec_turns.specs.declared.start.StartTurn.{StartTurn as CourseTurn}
use Rattle.ec_turns.specs.declared.start.StartTurn.TheVariants as courses
use Rattle.rummymaple.specs.Failure.{failure_code, failure_number}
use Rattle.rummymaple.specs.Heard.{AreHeard}
use Rattle.rummymaple.specs.Mail.{no_mail, progress_in}
use Rattle.rummymaple.specs.Numbers.{copy_number, form_of, number_of}
use Rattle.rummymaple.specs.Sent.{IsSentPut}
use Rattle.rummymaple.specs.Wanted.{are_objects, objects_for, wanted_of}
use Rattle.rummymaple.specs.declared.cycle.TheConstants.{UNDER_WAY, DONE, ENDED}
use Rattle.rummymaple.specs.declared.numbers.Code.{Code}
use Rattle.rummymaple.specs.declared.numbers.Code.TheVariants as codes
use Rattle.rummymaple.specs.declared.numbers.Copy.TheVariants.{Lost}
use Rattle.rummymaple.specs.declared.sent.SentEnd.{SentEnd}
use Rattle.rummymaple.specs.declared.sent.SentEnd.TheVariants as sends
use Rattle.rummymaple.specs.declared.starting.Start.{Start}
use Rattle.rummymaple.specs.declared.starting.StartAnswer.{StartAnswer}
use Rattle.rummymaple.specs.declared.starting.StartEnd.{StartEnd}
use Rattle.rummymaple.specs.declared.starting.StartEnd.TheVariants.{Goes, Done, Failed, BadForm, BadNumbers}
use Rattle.rummymaple.specs.declared.starting.StartEnd.TheVariants.{Over}
use Rattle.rummymaple.specs.declared.starting.StartTurn.{StartTurn}
use Rattle.rummymaple.specs.declared.starting.TheConstants.{NONE_DOWN}
use Rattle.rummymaple.specs.declared.wanted.Object.{Object}
use Rattle.rummymaple.specs.declared.wanted.Startup.{Startup}

-- ---- the numbers of a start-up

-- the stages by their numbers
unfoldable pub stage_in : ℕ → Option Stage
stage_in n =
    if n == 0 then Some stages.Count
    else if n == 1 then Some stages.Behind
    else if n == 2 then Some stages.Stations
    else if n == 3 then Some stages.Init
    else if n == 4 then Some stages.PreOp
    else if n == 5 then Some stages.SafeOp
    else if n == 6 then Some stages.Op
    else None

abbrev pub down_in : Start → Option ℕ
down_in s = if s.down == NONE_DOWN then None else Some s.down

abbrev pub plan_with : Start → Option Stage → Option Plan
plan_with s None = None
plan_with s (Some last) = Some (record { slaves = s.slaves; down = down_in s; last = last })

-- of a line of 1 to 256 slaves
abbrev pub plan_in : Start → Option Plan
plan_in s =
    if s.slaves == 0 || nat_lt MAX_SLAVES s.slaves then None else plan_with s (stage_in s.last)

abbrev pub course_with : Start → Stage → Option Progress → Course
course_with s stage written = record {
  stage = stage;
  place = s.place;
  left = s.left;
  first = record { asked = s.asked; unanswered = s.unanswered; written = written };
}

abbrev pub course_writing : Start → Stage → Option Progress → Option Course
course_writing s stage None = None
course_writing s stage (Some progress) = Some (course_with s stage (Some progress))

abbrev pub course_by : Start → Option Stage → Option Course
course_by s None = None
course_by s (Some stage) =
    if s.is_writing == 0 then Some (course_with s stage None) else course_writing s stage (progress_in s.mail)

-- how far it is; nothing where the numbers are those of no start-up
abbrev pub course_in : Start → Option Course
course_in s = course_by s (stage_in s.stage)

-- what the slave at its place is to be told, where there are records of each slave, and its objects are such
abbrev pub slave_by : Option Records → List Object → Option Wanted
slave_by None os = None
slave_by (Some records) os = Some (wanted_of records os)

abbrev pub slave_in : List Records → List Startup → Start → Option Wanted
slave_in records startup s =
    if length records == s.slaves && are_objects (objects_for startup s.place)
    then slave_by (slice_get records s.place) (objects_for startup s.place)
    else None

-- other numbers of how far it is, and else the same
pub record IsGoing (before : Start) (course : Course) (later : Start) : Type 0 where
  pub course_is : course_in later ≡ Some course
  pub slaves : later.slaves ≡ before.slaves
  pub down : later.down ≡ before.down
  pub last : later.last ≡ before.last
  pub form : later.form ≡ before.form
  pub state : later.state ≡ before.state

-- ---- how it begins

abbrev pub blank : ℕ → ℕ → ℕ → ℕ → ℕ → Start
blank form slaves down first last = record {
  left = 0;
  mail = no_mail 0;
  slaves = slaves;
  down = down;
  place = 0;
  stage = first;
  last = last;
  is_writing = 0;
  asked = 0;
  unanswered = 0;
  form = form;
  state = UNDER_WAY;
}

-- with the first slave of a stage, where both stages are such
abbrev pub IsBegunBy : Start → Option Stage → Option Plan → Start → Type 0
IsBegunBy before None plan s = s ≡ before
IsBegunBy before (Some first) None s = s ≡ before
IsBegunBy before (Some first) (Some plan) s = IsGoing before (at_stage plan first) s

abbrev pub IsBegun : ℕ → ℕ → ℕ → ℕ → ℕ → Start → Type 0
IsBegun form slaves down first last s =
    let before = blank form slaves down first last in
    IsBegunBy before (stage_in first) (plan_in before) s

-- ---- the next frame

abbrev pub IsCourseNext : Option Plan → Option Course → Option Wanted → List ℕ → SentEnd → List ℕ → Type 0
IsCourseNext (Some plan) (Some course) (Some wanted) before end later =
    (sent : Option (List DatagramRecord)) × IsStartFrame plan wanted course sent
    × IsSentPut sent before end later
IsCourseNext (Some plan) (Some course) None before end later = (end ≡ sends.BadNumbers) × (later ≡ before)
IsCourseNext (Some plan) None wanted before end later = (end ≡ sends.BadNumbers) × (later ≡ before)
IsCourseNext None course wanted before end later = (end ≡ sends.BadNumbers) × (later ≡ before)

abbrev pub IsOpenNext : List Records → List Startup → Start → List ℕ → SentEnd → List ℕ → Type 0
IsOpenNext records startup s before end later =
    IsCourseNext (plan_in s) (course_in s) (slave_in records startup s) before end later

abbrev pub IsNextOf : List Records → List Startup → Start → List ℕ → SentEnd → List ℕ → Type 0
IsNextOf records startup s before end later =
    ((s.state ≡ UNDER_WAY) × IsOpenNext records startup s before end later)
    ⊎ ((s.state ≢ UNDER_WAY) × (end ≡ sends.Over) × (later ≡ before))

-- ---- behind a frame

-- does it fail for a copy of another frame
abbrev pub is_strange : MasterFault → Bool
is_strange fault = elim fault [
  | Stranger ↦ true
  | _ ↦ false
]

abbrev pub is_stranger : StartFault → Bool
is_stranger (faults.Ask fault) = is_strange fault
is_stranger (faults.Count found) = false
is_stranger (faults.Step fault) = is_strange fault.fault

-- an end or a fault ends it, but for a copy of another frame, behind which it stands as before
abbrev pub IsSettled : Start → Stage → CourseTurn → StartEnd → Start → Type 0
IsSettled s stage (courses.Goes course) end later = (end ≡ Goes) × IsGoing s course later
IsSettled s stage (courses.Ended (Ok _)) end later = (end ≡ Done) × (later ≡ record s { state = DONE })
IsSettled s stage (courses.Ended (Err fault)) end later =
    (end ≡ Failed fault stage) × (later ≡ (if is_stranger fault then s else record s { state = ENDED }))

-- two packets are what ports give that hold them, and the turn over these settles it
pub record IsCourseTurn (form : Form) (plan : Plan) (wanted : Wanted) (course : Course) (a b : List ℕ)
    (s : Start) (turn : StartTurn) (later : Start) : Type 0 where
  pub came : Came
  pub heard : AreHeard form a b turn.a turn.b came
  pub did : CourseTurn
  pub held : HeldState
  pub taken : IsStartTurn HeldTrips (giving came) plan wanted course did held
  pub settled : IsSettled s course.stage did turn.end later

abbrev pub none_turned : StartEnd → StartTurn
none_turned end = record { end = end; a = Lost; b = Lost }

abbrev pub IsRefused : StartEnd → Start → StartTurn → Start → Type 0
IsRefused end s turn later = (turn ≡ none_turned end) × (later ≡ s)

abbrev pub IsFitTurn : Form → Option Plan → Option Course → Option Wanted → List ℕ → List ℕ → Start
    → StartTurn → Start → Type 0
IsFitTurn form (Some plan) (Some course) (Some wanted) a b s turn later =
    IsCourseTurn form plan wanted course a b s turn later
IsFitTurn form (Some plan) (Some course) None a b s turn later = IsRefused BadNumbers s turn later
IsFitTurn form (Some plan) None wanted a b s turn later = IsRefused BadNumbers s turn later
IsFitTurn form None course wanted a b s turn later = IsRefused BadNumbers s turn later

abbrev pub IsFormTurn : Option Form → List Records → List Startup → List ℕ → List ℕ → Start → StartTurn
    → Start → Type 0
IsFormTurn None records startup a b s turn later = IsRefused BadForm s turn later
IsFormTurn (Some form) records startup a b s turn later =
    IsFitTurn form (plan_in s) (course_in s) (slave_in records startup s) a b s turn later

abbrev pub IsOpenTurn : List Records → List Startup → List ℕ → List ℕ → Start → StartTurn → Start → Type 0
IsOpenTurn records startup a b s turn later = IsFormTurn (form_of s.form) records startup a b s turn later

abbrev pub IsStarted : List Records → List Startup → List ℕ → List ℕ → Start → StartTurn → Start → Type 0
IsStarted records startup a b s turn later =
    ((s.state ≡ UNDER_WAY) × IsOpenTurn records startup a b s turn later)
    ⊎ ((s.state ≢ UNDER_WAY) × IsRefused Over s turn later)

-- ---- its numbers

-- which step it is, and the number of its part
abbrev pub step_number : Step → ℕ
step_number Station = 1
step_number (StationBehind first) = 1
step_number StationBefore = 1
step_number (SyncManager n) = 2
step_number (Fmmu n) = 3
step_number (StartupStep n) = 4
step_number (State state) = 5

abbrev pub step_part : Step → ℕ
step_part Station = 0
step_part (StationBehind first) = 0
step_part StationBefore = 0
step_part (SyncManager n) = n
step_part (Fmmu n) = n
step_part (StartupStep n) = n
step_part (State state) = code_of state

abbrev pub start_code : StartFault → Code
start_code (faults.Ask fault) = failure_code fault
start_code (faults.Count found) = codes.OtherCount
start_code (faults.Step fault) = failure_code fault.fault

abbrev pub start_number : StartFault → ℕ
start_number (faults.Ask fault) = failure_number fault
start_number (faults.Count found) = found
start_number (faults.Step fault) = failure_number fault.fault

abbrev pub end_code : StartEnd → Code
end_code Goes = codes.GoesOn
end_code Done = codes.Good
end_code (Failed fault stage) = start_code fault
end_code BadForm = codes.BadForm
end_code BadNumbers = codes.BadNumbers
end_code Over = codes.NotUnderWay

abbrev pub blank_answer : StartEnd → StartAnswer
blank_answer end = record {
  place = 0;
  stage = 0;
  step = 0;
  part = 0;
  number = 0;
  code = number_of (end_code end);
  copy_a = 0;
  copy_b = 0;
}

-- a fault tells its stage and a number; that of a step its slave and the step too
abbrev pub fault_answer : StartFault → Stage → StartAnswer → StartAnswer
fault_answer (faults.Ask fault) stage answer =
    record answer { stage = stage_number stage; number = failure_number fault }
fault_answer (faults.Count found) stage answer =
    record answer { stage = stage_number stage; number = found }
fault_answer (faults.Step fault) stage answer = record answer {
  place = fault.place;
  stage = stage_number stage;
  step = step_number fault.step;
  part = step_part fault.step;
  number = failure_number fault.fault;
}

abbrev pub end_answer : StartEnd → StartAnswer
end_answer Goes = blank_answer Goes
end_answer Done = blank_answer Done
end_answer (Failed fault stage) = fault_answer fault stage (blank_answer (Failed fault stage))
end_answer BadForm = blank_answer BadForm
end_answer BadNumbers = blank_answer BadNumbers
end_answer Over = blank_answer Over

abbrev pub start_answer : StartTurn → StartAnswer
start_answer turn =
    record (end_answer turn.end) { copy_a = copy_number turn.a; copy_b = copy_number turn.b }
