-- How the judging and the storing of a joined frame end.
use Rattle.std.specs.Prelude.{◌≡◌, ◌⊎◌, ℕ, List, length, drop}
use Rattle.ec_wire.specs.Datagram.{DatagramRecord}
use Rattle.ec_wire.specs.Fault.{IsSpelt, IsFirstFault}
use Rattle.ec_wire.specs.declared.fault.Form.TheVariants.{Udp}
use Rattle.ec_wire.specs.declared.fault.WireFault.{WireFault}
use Rattle.ec_master.specs.declared.verdict.Verdict.TheVariants as verdicts
use Rattle.rummymaple.specs.Answers.{AreAnswered, IsFirstOther, verdict_on, with_counts_at, stored}
use Rattle.rummymaple.specs.Items.{AreTaken, IsFirstRefused}
use Rattle.rummymaple.specs.Numbers.{number_of}
use Rattle.rummymaple.specs.declared.item.Item.{Item}
use Rattle.rummymaple.specs.declared.judge.ItemAnswer.{ItemAnswer}
use Rattle.rummymaple.specs.declared.judge.JudgeEnd.{JudgeEnd}
use Rattle.rummymaple.specs.declared.judge.JudgeEnd.TheVariants.{Judged, Other, NotJoined}
use Rattle.rummymaple.specs.declared.store.StoreEnd.{StoreEnd}
use Rattle.rummymaple.specs.declared.store.StoreEnd.TheVariants as stores
use Rattle.rummymaple.specs.declared.numbers.Code.TheVariants as codes

-- ---- judging

-- how the judging of a frame ends, and the items behind it
abbrev pub IsJudgedFrame : List Item → ℕ → List DatagramRecord → JudgeEnd → List Item → Type 0
IsJudgedFrame items first frame (Judged verdict) later =
    AreAnswered items first frame × (verdict ≡ verdict_on items first frame)
    × (later ≡ with_counts_at first items frame)
IsJudgedFrame items first frame (Other j) later = IsFirstOther items first frame j × (later ≡ items)
IsJudgedFrame items first frame (NotJoined fault) later = ⊥

-- how the judging of these bytes ends: that of the frame that they spell, or their first fault is named
abbrev pub IsJudged : List Item → ℕ → List ℕ → JudgeEnd → List Item → Type 0
IsJudged items first bytes end later =
    ((frame : List DatagramRecord) × IsSpelt Udp bytes frame × IsJudgedFrame items first frame end later)
    ⊎ ((f : WireFault) × IsFirstFault Udp bytes f × (end ≡ NotJoined f) × (later ≡ items))

-- it in numbers
abbrev pub judge_answer : JudgeEnd → ItemAnswer
judge_answer (Judged verdicts.Good) = record { at = 0; code = number_of codes.Good }
judge_answer (Judged (verdicts.Short k)) = record { at = k; code = number_of codes.Short }
judge_answer (Judged (verdicts.Over k)) = record { at = k; code = number_of codes.Over }
judge_answer (Other j) = record { at = j; code = number_of codes.OtherItem }
judge_answer (NotJoined fault) = record { at = fault.at; code = number_of codes.NotJoined }

-- ---- storing

-- how the storing of a frame ends, and the image behind it
abbrev pub IsStoredFrame : List Item → ℕ → List DatagramRecord → List ℕ → StoreEnd → List ℕ → Type 0
IsStoredFrame items first frame image stores.Stored later =
    AreTaken (length image) items × AreAnswered items first frame
    × (later ≡ stored (drop first items) frame image)
IsStoredFrame items first frame image (stores.Refused at why) later =
    IsFirstRefused (length image) items (record { at = at; why = why }) × (later ≡ image)
IsStoredFrame items first frame image (stores.Other j) later =
    AreTaken (length image) items × IsFirstOther items first frame j × (later ≡ image)
IsStoredFrame items first frame image (stores.NotJoined fault) later = ⊥

-- how the storing of these bytes ends
abbrev pub IsStored : List Item → ℕ → List ℕ → List ℕ → StoreEnd → List ℕ → Type 0
IsStored items first bytes image end later =
    ((frame : List DatagramRecord) × IsSpelt Udp bytes frame
    × IsStoredFrame items first frame image end later)
    ⊎ ((f : WireFault) × IsFirstFault Udp bytes f × (end ≡ stores.NotJoined f) × (later ≡ image))

-- it in numbers
abbrev pub store_answer : StoreEnd → ItemAnswer
store_answer stores.Stored = record { at = 0; code = number_of codes.Good }
store_answer (stores.Refused at why) = record { at = at; code = number_of why }
store_answer (stores.Other j) = record { at = j; code = number_of codes.OtherItem }
store_answer (stores.NotJoined fault) = record { at = fault.at; code = number_of codes.NotJoined }
