-- A look at the state of one slave (IEC 61158-6-12, AL status), by the packets that came back of its frame.
use Rattle.std.specs.Prelude.{◌≡◌, ℕ, List, Option, None, Some, Result, Ok, Err}
use Rattle.ec_wire.specs.Datagram.{DatagramRecord}
use Rattle.ec_wire.specs.declared.fault.Form.{Form}
use Rattle.ec_regs.specs.Al.{code_of}
use Rattle.ec_ring.specs.declared.weather.Came.{Came}
use Rattle.ec_run.specs.declared.recovery.Seen.{Seen}
use Rattle.ec_run.specs.declared.recovery.Seen.TheVariants.{In, Error, Nobody, Unheard, Several}
use Rattle.ec_services.specs.declared.fault.MasterFault.{MasterFault}
use Rattle.ec_turns.specs.Look.{IsLook, IsLookFrame}
use Rattle.rummymaple.specs.Failure.{failure_code}
use Rattle.rummymaple.specs.Heard.{AreHeard}
use Rattle.rummymaple.specs.Numbers.{copy_number, number_of}
use Rattle.rummymaple.specs.Sent.{IsSentPut}
use Rattle.rummymaple.specs.declared.look.Look.{Look}
use Rattle.rummymaple.specs.declared.look.LookAnswer.{LookAnswer}
use Rattle.rummymaple.specs.declared.look.LookEnd.{LookEnd}
use Rattle.rummymaple.specs.declared.look.LookEnd.TheVariants as ends
use Rattle.rummymaple.specs.declared.numbers.Code.{Code}
use Rattle.rummymaple.specs.declared.numbers.Code.TheVariants as codes
use Rattle.rummymaple.specs.declared.numbers.Copy.TheVariants.{Lost}
use Rattle.rummymaple.specs.declared.sent.SentEnd.{SentEnd}

-- the frame of a look is put
abbrev pub IsLookPut : ℕ → List ℕ → SentEnd → List ℕ → Type 0
IsLookPut station before end later =
    (sent : Option (List DatagramRecord)) × IsLookFrame station sent × IsSentPut sent before end later

-- ---- what is seen

abbrev pub seen_end : Result Seen MasterFault → LookEnd
seen_end (Ok seen) = ends.Seen seen
seen_end (Err fault) = ends.Failed fault

-- two packets are what ports give, and the look over these sees it
pub record IsFormLook (form : Form) (station : ℕ) (a b : List ℕ) (look : Look) : Type 0 where
  pub came : Came
  pub heard : AreHeard form a b look.a look.b came
  pub seen : Result Seen MasterFault
  pub sees : IsLook station came seen
  pub ends : look.end ≡ seen_end seen

abbrev pub none_seen : Look
none_seen = record { end = ends.BadForm; a = Lost; b = Lost }

abbrev pub IsLooked : Option Form → ℕ → List ℕ → List ℕ → Look → Type 0
IsLooked None station a b look = look ≡ none_seen
IsLooked (Some form) station a b look = IsFormLook form station a b look

-- ---- its numbers

abbrev pub seen_code : Seen → Code
seen_code (In state) = codes.Good
seen_code (Error state code) = codes.Refused
seen_code Nobody = codes.NoSlave
seen_code Unheard = codes.NoAnswer
seen_code Several = codes.BadAnswer

abbrev pub look_code : LookEnd → Code
look_code (ends.Seen seen) = seen_code seen
look_code (ends.Failed fault) = failure_code fault
look_code ends.BadForm = codes.BadForm

abbrev pub look_state : LookEnd → ℕ
look_state (ends.Seen (In state)) = code_of state
look_state (ends.Seen (Error state code)) = code_of state
look_state (ends.Seen Nobody) = 0
look_state (ends.Seen Unheard) = 0
look_state (ends.Seen Several) = 0
look_state (ends.Failed fault) = 0
look_state ends.BadForm = 0

abbrev pub look_error : LookEnd → ℕ
look_error (ends.Seen (In state)) = 0
look_error (ends.Seen (Error state code)) = code
look_error (ends.Seen Nobody) = 0
look_error (ends.Seen Unheard) = 0
look_error (ends.Seen Several) = 0
look_error (ends.Failed fault) = 0
look_error ends.BadForm = 0

abbrev pub look_answer : Look → LookAnswer
look_answer look = record {
  state = look_state look.end;
  error = look_error look.end;
  code = number_of (look_code look.end);
  copy_a = copy_number look.a;
  copy_b = copy_number look.b;
}
