-- A cycle as a state machine: what a master holds before and after it takes what came back of a frame.
use Rattle.std.specs.Prelude.{◌≡◌, ◌≢◌, ◌==◌, ◌⊎◌, ℕ, ◌+◌, if◌then◌else◌, Option, None, Some}
use Rattle.std.specs.Prelude.{List, [], ◌∷◌, ◌++◌, length, take, drop, slice_range}
use Rattle.ec_wire.specs.Command.{reads}
use Rattle.ec_wire.specs.Datagram.{DatagramRecord}
use Rattle.ec_wire.specs.Fault.{IsSpelt, IsFirstFault}
use Rattle.ec_wire.specs.Kind.{command_of}
use Rattle.ec_wire.specs.declared.fault.Form.{Form}
use Rattle.ec_wire.specs.declared.fault.WireFault.{WireFault}
use Rattle.ec_merge.specs.Frames.{IsOwn, IsFault, joined_frame}
use Rattle.ec_merge.specs.declared.frames.JoinFault.{JoinFault}
use Rattle.ec_merge.specs.declared.frames.JoinFault.TheVariants as strangers
use Rattle.ec_master.specs.declared.verdict.Verdict.{Verdict}
use Rattle.ec_master.specs.declared.verdict.Verdict.TheVariants as verdicts
use Rattle.rummymaple.specs.Answers.{AreAnswered, IsFirstOther, verdict_on, with_counts_at, stored}
use Rattle.rummymaple.specs.Copies.{IsCopy}
use Rattle.rummymaple.specs.Frame.{IsFrame, frame_answer}
use Rattle.rummymaple.specs.Items.{kind_named, AreTaken, IsFirstRefused}
use Rattle.rummymaple.specs.Numbers.{number_of, copy_number, form_of}
use Rattle.rummymaple.specs.declared.cycle.Cycle.{Cycle}
use Rattle.rummymaple.specs.declared.cycle.TheConstants.{UNDER_WAY, DONE, ENDED}
use Rattle.rummymaple.specs.declared.cycle.Turn.{Turn}
use Rattle.rummymaple.specs.declared.cycle.TurnAnswer.{TurnAnswer}
use Rattle.rummymaple.specs.declared.cycle.TurnEnd.{TurnEnd}
use Rattle.rummymaple.specs.declared.cycle.TurnEnd.TheVariants.{Judged, Other, Stranger, NotSent, BadForm}
use Rattle.rummymaple.specs.declared.cycle.TurnEnd.TheVariants.{Refused, NoRoom, Over}
use Rattle.rummymaple.specs.declared.frame.FrameAnswer.{FrameAnswer}
use Rattle.rummymaple.specs.declared.frame.FrameEnd.{FrameEnd}
use Rattle.rummymaple.specs.declared.item.Item.{Item}
use Rattle.rummymaple.specs.declared.item.Refused as refusals
use Rattle.rummymaple.specs.declared.numbers.Code.{Code}
use Rattle.rummymaple.specs.declared.numbers.Code.TheVariants as codes
use Rattle.rummymaple.specs.declared.numbers.Copy.TheVariants.{Lost}

-- what a master holds of a cycle: how far it is, its items, the data that wait, and the process image
pub record Held : Type 0 where
  pub cycle : Cycle
  pub items : List Item
  pub waiting : List ℕ
  pub image : List ℕ

abbrev pub held : Cycle → List Item → List ℕ → List ℕ → Held
held cycle items waiting image =
    record { cycle = cycle; items = items; waiting = waiting; image = image }

-- a cycle that begins
abbrev pub begun : ℕ → Cycle
begun form = record { first = 0; form = form; state = UNDER_WAY }

-- ---- the next frame

-- nothing was made, since the cycle is not under way
abbrev pub none_made : FrameAnswer
none_made = record { bytes = 0; items = 0; at = 0; code = number_of codes.NotUnderWay }

-- how the making of the next frame ends: of a cycle that is under way, that of the first item that has no
-- good answer yet
abbrev pub IsNext : Cycle → List Item → List ℕ → List ℕ → FrameAnswer → List ℕ → Type 0
IsNext cycle items image before answer later =
    ((cycle.state ≡ UNDER_WAY)
    × ((end : FrameEnd) × (answer ≡ frame_answer end) × IsFrame items image cycle.first before end later))
    ⊎ ((cycle.state ≢ UNDER_WAY) × (answer ≡ none_made) × (later ≡ before))

-- ---- the data that wait

-- the image with the data that wait for an item, if it reads
abbrev pub taken_item : Item → List ℕ → List ℕ → List ℕ
taken_item i waiting image =
    if reads (command_of (kind_named i.kind))
    then take i.offset image
    ++ (slice_range waiting i.offset (i.offset + i.length) ++ drop (i.offset + i.length) image)
    else image

-- the image with the data that wait for one item after the other
unfoldable pub taken_over : List Item → List ℕ → List ℕ → List ℕ
taken_over [] waiting image = image
taken_over (i ∷ is) waiting image = taken_over is waiting (taken_item i waiting image)

-- ---- behind a frame

-- the frame's data wait; where it is the last one the cycle is done, and all data are in the image
abbrev pub kept : Held → List DatagramRecord → Held
kept h frame =
    let first = h.cycle.first + length frame in
    let waiting = stored (drop h.cycle.first h.items) frame h.waiting in
    let last = first == length h.items in
    record {
      cycle = record { first = first; form = h.cycle.form; state = if last then DONE else h.cycle.state };
      items = h.items;
      waiting = waiting;
      image = if last then taken_over h.items waiting h.image else h.image;
    }

-- the cycle is ended
abbrev pub ended : Held → Held
ended h = record h { cycle = record h.cycle { state = ENDED } }

-- behind a verdict: a good frame is kept, any other one ends the cycle
abbrev pub settled : Held → List DatagramRecord → Verdict → Held
settled h frame verdicts.Good = kept h frame
settled h frame (verdicts.Short k) = ended h
settled h frame (verdicts.Over k) = ended h

-- and what came back is written into its items
abbrev pub judged : Held → List DatagramRecord → Verdict → Held
judged h frame verdict =
    record (settled h frame verdict) { items = with_counts_at h.cycle.first h.items frame }

-- ---- how the taking of a frame ends

-- of a joined frame
abbrev pub EndsFrame : Held → List DatagramRecord → TurnEnd → Held → Type 0
EndsFrame h frame (Judged verdict) later =
    AreAnswered h.items h.cycle.first frame × (verdict ≡ verdict_on h.items h.cycle.first frame)
    × (later ≡ judged h frame verdict)
EndsFrame h frame (Other j) later = IsFirstOther h.items h.cycle.first frame j × (later ≡ h)
EndsFrame h frame (Stranger fault) later = ⊥
EndsFrame h frame (NotSent fault) later = ⊥
EndsFrame h frame BadForm later = ⊥
EndsFrame h frame (Refused at why) later = ⊥
EndsFrame h frame NoRoom later = ⊥
EndsFrame h frame Over later = ⊥

-- of the copies x and y of a frame s: a stranger is named, and else they are joined
abbrev pub EndsCopies : List DatagramRecord → List DatagramRecord → List DatagramRecord → Held → TurnEnd
    → Held → Type 0
EndsCopies s x y h end later =
    (IsOwn s x × IsOwn s y × EndsFrame h (joined_frame s x y) end later)
    ⊎ ((fault : JoinFault) × IsFault s x y fault × (end ≡ Stranger fault) × (later ≡ h))

-- of two packets, where the bytes that were sent spell a frame
pub record AreTurned (form : Form) (sent a b : List ℕ) (h : Held) (turn : Turn) (later : Held) : Type 0 where
  pub frame : List DatagramRecord
  pub copy_a : List DatagramRecord
  pub copy_b : List DatagramRecord
  pub sent_is : IsSpelt form sent frame
  pub a_is : IsCopy form a frame turn.a copy_a
  pub b_is : IsCopy form b frame turn.b copy_b
  pub ends : EndsCopies frame copy_a copy_b h turn.end later

-- no packet was looked at
abbrev pub none_turned : TurnEnd → Turn
none_turned end = record { end = end; a = Lost; b = Lost }

-- it ends so, and all is as it was
pub record IsRefused (h : Held) (end : TurnEnd) (turn : Turn) (later : Held) : Type 0 where
  pub turn_is : turn ≡ none_turned end
  pub kept : later ≡ h

-- of a form: where the bytes that were sent are no frame, their first fault is named
abbrev pub IsFormTurn : Option Form → List ℕ → List ℕ → List ℕ → Held → Turn → Held → Type 0
IsFormTurn None sent a b h turn later = IsRefused h BadForm turn later
IsFormTurn (Some form) sent a b h turn later =
    AreTurned form sent a b h turn later
    ⊎ ((f : WireFault) × IsFirstFault form sent f × IsRefused h (NotSent f) turn later)

-- of items: the first one that is not taken over the image is named
abbrev pub IsFitTurn : List ℕ → List ℕ → List ℕ → Held → Turn → Held → Type 0
IsFitTurn sent a b h turn later =
    ((r : refusals.Refused) × IsFirstRefused (length h.image) h.items r
    × IsRefused h (Refused r.at r.why) turn later)
    ⊎ (AreTaken (length h.image) h.items × IsFormTurn (form_of h.cycle.form) sent a b h turn later)

-- of a cycle that is under way: the room where data wait is as large as the image
abbrev pub IsOpenTurn : List ℕ → List ℕ → List ℕ → Held → Turn → Held → Type 0
IsOpenTurn sent a b h turn later =
    ((length h.waiting ≢ length h.image) × IsRefused h NoRoom turn later)
    ⊎ ((length h.waiting ≡ length h.image) × IsFitTurn sent a b h turn later)

-- of any cycle
abbrev pub IsTurn : List ℕ → List ℕ → List ℕ → Held → Turn → Held → Type 0
IsTurn sent a b h turn later =
    ((h.cycle.state ≡ UNDER_WAY) × IsOpenTurn sent a b h turn later)
    ⊎ ((h.cycle.state ≢ UNDER_WAY) × IsRefused h Over turn later)

-- ---- its numbers

-- the code of an end
abbrev pub turn_code : TurnEnd → Code
turn_code (Judged verdicts.Good) = codes.Good
turn_code (Judged (verdicts.Short k)) = codes.Short
turn_code (Judged (verdicts.Over k)) = codes.Over
turn_code (Other j) = codes.OtherItem
turn_code (Stranger (strangers.StrangerA k)) = codes.StrangerA
turn_code (Stranger (strangers.StrangerB k)) = codes.StrangerB
turn_code (NotSent fault) = codes.NotSent
turn_code BadForm = codes.BadForm
turn_code (Refused at why) = why
turn_code NoRoom = codes.NoRoom
turn_code Over = codes.NotUnderWay

-- the place that it names
abbrev pub turn_place : TurnEnd → ℕ
turn_place (Judged verdicts.Good) = 0
turn_place (Judged (verdicts.Short k)) = k
turn_place (Judged (verdicts.Over k)) = k
turn_place (Other j) = j
turn_place (Stranger (strangers.StrangerA k)) = k
turn_place (Stranger (strangers.StrangerB k)) = k
turn_place (NotSent fault) = fault.at
turn_place BadForm = 0
turn_place (Refused at why) = at
turn_place NoRoom = 0
turn_place Over = 0

-- all of it
abbrev pub turn_answer : Turn → TurnAnswer
turn_answer turn = record {
  at = turn_place turn.end;
  code = number_of (turn_code turn.end);
  copy_a = copy_number turn.a;
  copy_b = copy_number turn.b;
}
