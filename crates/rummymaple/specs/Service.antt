-- A service with one slave by turns (IEC 61158-6-12, SDO services, AL management), in the numbers in which a
-- caller keeps it: which frame goes out next, and how it stands behind what came back of that.
use Rattle.std.specs.Prelude.{◌≡◌, ◌≢◌, ◌⊎◌, ℕ, ◌+◌, ◌%◌, ◌==◌, nat_lt, if◌then◌else◌, Option, None, Some}
use Rattle.std.specs.Prelude.{List, Ok, Err}
use Rattle.ec_wire.specs.Datagram.{DatagramRecord}
use Rattle.ec_wire.specs.declared.fault.Form.{Form}
use Rattle.ec_regs.specs.Al.{code_of, state_of}
use Rattle.ec_regs.specs.declared.al.AlState.{AlState}
use Rattle.ec_areas.specs.Records.{sync_manager_at}
use Rattle.ec_app.specs.declared.roles.TheConstants.{REQUEST_MAILBOX, ANSWER_MAILBOX}
use Rattle.ec_app.specs.declared.value.Value.{Value as ObjectValue}
use Rattle.ec_check.specs.Records.{controller_with}
use Rattle.ec_check.specs.declared.records.Records.{Records}
use Rattle.ec_esc.specs.State.{word_at}
use Rattle.ec_regs.specs.declared.registers.TheConstants.{STATION_ADDRESS}
use Rattle.ec_ring.specs.declared.weather.Came.{Came}
use Rattle.ec_run.specs.StartupObjects.{peer_between}
use Rattle.ec_services.specs.declared.fault.MasterFault.{MasterFault}
use Rattle.ec_services.specs.declared.fault.MasterFault.TheVariants.{Stranger}
use Rattle.ec_services.specs.declared.mailbox.Peer.{Peer}
use Rattle.ec_services.specs.declared.surely.Progress.{Progress}
use Rattle.ec_acyclic.specs.Next.{TalkState}
use Rattle.ec_acyclic.specs.Talk.{begun, resumed}
use Rattle.ec_acyclic.specs.Turn.{IsServiceTurn}
use Rattle.ec_acyclic.specs.declared.next.Next.{Next}
use Rattle.ec_acyclic.specs.declared.next.Next.TheVariants.{NoMailboxes, Upload, Download, Request, Reached}
use Rattle.ec_acyclic.specs.declared.next.Next.TheVariants.{InWhich, Acknowledge, Cleared}
use Rattle.ec_acyclic.specs.declared.service.Answer.TheVariants.{Value, Written, In}
use Rattle.ec_acyclic.specs.declared.service.Service.{Service as Asked}
use Rattle.ec_acyclic.specs.declared.service.Service.TheVariants.{Write, State}
use Rattle.ec_acyclic.specs.declared.turn.Turn.{Turn}
use Rattle.ec_acyclic.specs.declared.turn.Turn.TheVariants.{Goes, Ended}
use Rattle.ec_turns.specs.Held.{HeldState, HeldTrips, giving}
use Rattle.ec_turns.specs.Sent.{IsServiceFrame}
use Rattle.rummymaple.specs.Failure.{failure_code, failure_number}
use Rattle.rummymaple.specs.Heard.{AreHeard}
use Rattle.rummymaple.specs.Mail.{progress_in}
use Rattle.rummymaple.specs.Numbers.{copy_number, form_of, number_of}
use Rattle.rummymaple.specs.Sent.{IsSentPut}
use Rattle.rummymaple.specs.Values.{value_in, value_number, value_size}
use Rattle.rummymaple.specs.declared.cycle.TheConstants.{UNDER_WAY, DONE, ENDED}
use Rattle.rummymaple.specs.declared.numbers.Code.{Code}
use Rattle.rummymaple.specs.declared.numbers.Code.TheVariants as codes
use Rattle.rummymaple.specs.declared.numbers.Copy.TheVariants.{Lost}
use Rattle.rummymaple.specs.declared.sent.SentEnd.{SentEnd}
use Rattle.rummymaple.specs.declared.sent.SentEnd.TheVariants as sends
use Rattle.rummymaple.specs.declared.service.Service.{Service}
use Rattle.rummymaple.specs.declared.service.ServiceAnswer.{ServiceAnswer}
use Rattle.rummymaple.specs.declared.service.ServiceEnd.{ServiceEnd}
use Rattle.rummymaple.specs.declared.service.ServiceEnd.TheVariants as ends
use Rattle.rummymaple.specs.declared.service.ServiceTurn.{ServiceTurn}

-- ---- the numbers of a service

abbrev pub upload_with : Service → Option Progress → Option Next
upload_with s None = None
upload_with s (Some progress) = Some (Upload s.index s.sub progress)

abbrev pub upload_in : Service → Option Next
upload_in s = upload_with s (progress_in s.mail)

abbrev pub download_with : Service → Option Progress → Option ObjectValue → Option Next
download_with s None value = None
download_with s (Some progress) None = None
download_with s (Some progress) (Some value) = Some (Download s.index s.sub value progress)

abbrev pub download_in : Service → Option Next
download_in s = download_with s (progress_in s.mail) (value_in s.size s.value)

abbrev pub with_state : ℕ → Option AlState → Option Next
with_state n None = None
with_state n (Some state) =
    if n == 3 then Some (Request state)
    else if n == 4 then Some (Reached state)
    else Some (Acknowledge state)

-- what goes out next, by its number; nothing where the numbers are those of no service
unfoldable pub next_in : Service → Option Next
next_in s =
    if s.next == 0 then Some NoMailboxes
    else if s.next == 1 then upload_in s
    else if s.next == 2 then download_in s
    else if s.next == 5 then Some InWhich
    else if s.next == 7 then Some Cleared
    else if nat_lt s.next 7 then with_state s.next (state_of s.al_state)
    else None

abbrev pub talk_with : Service → Option Next → Option TalkState
talk_with s None = None
talk_with s (Some next) = Some (resumed s.mail.station next s.unanswered s.trips)

abbrev pub talk_in : Service → Option TalkState
talk_in s = talk_with s (next_in s)

-- other numbers of what goes out next, and else the same
pub record IsAsking (before later : Service) : Type 0 where
  pub station : later.mail.station ≡ before.mail.station
  pub unanswered : later.unanswered ≡ before.unanswered
  pub trips : later.trips ≡ before.trips
  pub form : later.form ≡ before.form
  pub state : later.state ≡ before.state

-- ---- how it begins

-- the slave with these records, whose next mail has this counter, where it has both mailboxes
abbrev pub peer_of : Records → ℕ → Option Peer
peer_of records counter =
    peer_between (word_at (controller_with records).memory STATION_ADDRESS)
    (sync_manager_at (controller_with records).memory REQUEST_MAILBOX)
    (sync_manager_at (controller_with records).memory ANSWER_MAILBOX) counter

-- counters of mails run from 1 to 7
abbrev pub counter_of : ℕ → ℕ
counter_of number = number % 7 + 1

-- numbers of a service of a form that is under way
pub record IsUnderWay (form : ℕ) (t : TalkState) (s : Service) : Type 0 where
  pub talk : talk_in s ≡ Some t
  pub form_is : s.form ≡ form
  pub state : s.state ≡ UNDER_WAY

-- they are those of this service with a slave, which has made no trip
abbrev pub IsBegun : ℕ → Option Peer → Records → Asked → ℕ → Service → Type 0
IsBegun form peer records asked trips s =
    IsUnderWay form
    (begun asked (word_at (controller_with records).memory STATION_ADDRESS) peer trips)
    s

-- they are those of no service
abbrev pub IsNoneBegun : ℕ → Service → Type 0
IsNoneBegun form s = (talk_in s ≡ None) × (s.form ≡ form) × (s.state ≡ UNDER_WAY)

abbrev pub IsWriteBegun : ℕ → Records → ℕ → ℕ → Option ObjectValue → ℕ → ℕ → Service → Type 0
IsWriteBegun form records index sub None number trips s = IsNoneBegun form s
IsWriteBegun form records index sub (Some value) number trips s =
    IsBegun form (peer_of records (counter_of number)) records (Write index sub value) trips s

abbrev pub IsStateBegun : ℕ → Records → Option AlState → ℕ → Service → Type 0
IsStateBegun form records None trips s = IsNoneBegun form s
IsStateBegun form records (Some state) trips s =
    IsBegun form (peer_of records 1) records (State state) trips s

-- ---- the next frame

abbrev pub IsTalkNext : Option TalkState → List ℕ → SentEnd → List ℕ → Type 0
IsTalkNext None before end later = (end ≡ sends.BadNumbers) × (later ≡ before)
IsTalkNext (Some t) before end later =
    (sent : Option (List DatagramRecord)) × IsServiceFrame t sent × IsSentPut sent before end later

abbrev pub IsOpenNext : Service → List ℕ → SentEnd → List ℕ → Type 0
IsOpenNext s before end later = IsTalkNext (talk_in s) before end later

abbrev pub IsNextOf : Service → List ℕ → SentEnd → List ℕ → Type 0
IsNextOf s before end later =
    ((s.state ≡ UNDER_WAY) × IsOpenNext s before end later)
    ⊎ ((s.state ≢ UNDER_WAY) × (end ≡ sends.Over) × (later ≡ before))

-- ---- behind a frame

-- an answer or a fault ends it, but for a copy of another frame, behind which it stands as before
abbrev pub failed : Service → MasterFault → Service
failed s fault = elim fault [
  | Stranger ↦ s
  | _ ↦ record s { state = ENDED }
]

abbrev pub IsSettled : Service → Turn → ServiceEnd → Service → Type 0
IsSettled s (Goes t) end later = (end ≡ ends.Goes) × IsUnderWay s.form t later
IsSettled s (Ended (Ok answer)) end later = (end ≡ ends.Told answer) × (later ≡ record s { state = DONE })
IsSettled s (Ended (Err fault)) end later = (end ≡ ends.Failed fault) × (later ≡ failed s fault)

-- two packets are what ports give that hold them, and the turn over these settles it
pub record IsTalkTurn (form : Form) (a b : List ℕ) (s : Service) (t : TalkState) (turn : ServiceTurn)
    (later : Service) : Type 0 where
  pub came : Came
  pub heard : AreHeard form a b turn.a turn.b came
  pub did : Turn
  pub held : HeldState
  pub taken : IsServiceTurn HeldTrips (giving came) t did held
  pub settled : IsSettled s did turn.end later

abbrev pub none_turned : ServiceEnd → ServiceTurn
none_turned end = record { end = end; a = Lost; b = Lost }

abbrev pub IsFormTurn : Option Form → Option TalkState → List ℕ → List ℕ → Service → ServiceTurn → Service
    → Type 0
IsFormTurn None talk a b s turn later = (turn ≡ none_turned ends.BadForm) × (later ≡ s)
IsFormTurn (Some form) None a b s turn later = (turn ≡ none_turned ends.BadNumbers) × (later ≡ s)
IsFormTurn (Some form) (Some t) a b s turn later = IsTalkTurn form a b s t turn later

abbrev pub IsOpenTurn : List ℕ → List ℕ → Service → ServiceTurn → Service → Type 0
IsOpenTurn a b s turn later = IsFormTurn (form_of s.form) (talk_in s) a b s turn later

abbrev pub IsServed : List ℕ → List ℕ → Service → ServiceTurn → Service → Type 0
IsServed a b s turn later =
    ((s.state ≡ UNDER_WAY) × IsOpenTurn a b s turn later)
    ⊎ ((s.state ≢ UNDER_WAY) × (turn ≡ none_turned ends.Over) × (later ≡ s))

-- ---- its numbers

abbrev pub service_code : ServiceEnd → Code
service_code ends.Goes = codes.GoesOn
service_code (ends.Told answer) = codes.Good
service_code (ends.Failed fault) = failure_code fault
service_code ends.BadForm = codes.BadForm
service_code ends.BadNumbers = codes.BadNumbers
service_code ends.Over = codes.NotUnderWay

abbrev pub service_number : ServiceEnd → ℕ
service_number ends.Goes = 0
service_number (ends.Told (Value value)) = value_number value
service_number (ends.Told Written) = 0
service_number (ends.Told (In state)) = code_of state
service_number (ends.Failed fault) = failure_number fault
service_number ends.BadForm = 0
service_number ends.BadNumbers = 0
service_number ends.Over = 0

abbrev pub service_size : ServiceEnd → ℕ
service_size ends.Goes = 0
service_size (ends.Told (Value value)) = value_size value
service_size (ends.Told Written) = 0
service_size (ends.Told (In state)) = 0
service_size (ends.Failed fault) = 0
service_size ends.BadForm = 0
service_size ends.BadNumbers = 0
service_size ends.Over = 0

abbrev pub service_answer : ServiceTurn → ServiceAnswer
service_answer turn = record {
  number = service_number turn.end;
  size = service_size turn.end;
  code = number_of (service_code turn.end);
  copy_a = copy_number turn.a;
  copy_b = copy_number turn.b;
}
