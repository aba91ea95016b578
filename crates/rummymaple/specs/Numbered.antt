-- A frame goes out with a number behind it, by which its copy is known; and a packet that came back is opened
-- where it is a copy of that numbered frame, or else it is told why it is none (IEC 61158-4-12, the datagram
-- structure and NOP).
use Rattle.std.specs.Prelude.{◌≡◌, ◌⊎◌, ◌<◌, ◌≤◌, ℕ, ◌+◌, Option, None, Some, List, length}
use Rattle.ec_wire.specs.Datagram.{DatagramRecord}
use Rattle.ec_wire.specs.Fault.{IsSpelt, IsFirstFault}
use Rattle.ec_wire.specs.Spelling.{body_length, spelling}
use Rattle.ec_wire.specs.declared.fault.Form.{Form}
use Rattle.ec_wire.specs.declared.fault.Form.TheVariants.{Udp}
use Rattle.ec_wire.specs.declared.fault.WireFault.{WireFault}
use Rattle.ec_wire.specs.declared.layout.TheConstants.{MAX_LENGTH}
use Rattle.ec_merge.specs.Frames.{IsStranger}
use Rattle.ec_number.specs.Number.{numbered, opened, last_of, CameBack}
use Rattle.ec_number.specs.declared.number.TheConstants.{NUMBER_LENGTH}
use Rattle.rummymaple.specs.Join.{IsPut}
use Rattle.rummymaple.specs.Numbers.{number_of, fault_code}
use Rattle.rummymaple.specs.declared.numbers.Code.TheVariants as codes
use Rattle.rummymaple.specs.declared.open.OpenEnd.{OpenEnd}
use Rattle.rummymaple.specs.declared.open.OpenEnd.TheVariants as opens
use Rattle.rummymaple.specs.declared.packet.WrittenAnswer.{WrittenAnswer}
use Rattle.rummymaple.specs.declared.seal.SealEnd.{SealEnd}
use Rattle.rummymaple.specs.declared.seal.SealEnd.TheVariants as seals

-- a frame with free bytes for a number behind it, and one without
abbrev pub HasPlace : List DatagramRecord → Type 0
HasPlace frame = body_length frame + NUMBER_LENGTH ≤ MAX_LENGTH

abbrev pub IsFull : List DatagramRecord → Type 0
IsFull frame = MAX_LENGTH < body_length frame + NUMBER_LENGTH

-- ---- a frame that goes out

-- how the putting of a frame with a number behind it into a room ends
abbrev pub IsPutSealed : ℕ → List DatagramRecord → List ℕ → SealEnd → List ℕ → Type 0
IsPutSealed number frame before (seals.Sealed count) later =
    HasPlace frame × IsPut (spelling (numbered number frame)) before count later
IsPutSealed number frame before seals.NoRoom later =
    HasPlace frame × (length before < length (spelling (numbered number frame))) × (later ≡ before)
IsPutSealed number frame before seals.Full later = IsFull frame × (later ≡ before)
IsPutSealed number frame before (seals.NotSent fault) later = ⊥

-- the bytes spell a frame, and it is put with the number behind it into the room
pub record IsSealedFrame (number : ℕ) (sent before : List ℕ) (end : SealEnd) (later : List ℕ) : Type 0 where
  pub frame : List DatagramRecord
  pub sent_is : IsSpelt Udp sent frame
  pub ends : IsPutSealed number frame before end later

-- how the numbering of bytes ends: the first fault of what is said to be sent is named
abbrev pub IsSealed : ℕ → List ℕ → List ℕ → SealEnd → List ℕ → Type 0
IsSealed number sent before end later =
    IsSealedFrame number sent before end later
    ⊎ ((f : WireFault) × IsFirstFault Udp sent f × (end ≡ seals.NotSent f) × (later ≡ before))

-- ---- a packet that came

-- the last datagram of a copy has the data of the last one of the numbered frame: it bears its number
abbrev pub HasItsNumber : List DatagramRecord → List DatagramRecord → Type 0
HasItsNumber sent copy = (last_of copy).payload ≡ (last_of sent).payload

-- how the opening of a frame ends that is said to be a copy of a numbered frame: a copy came of it, and what
-- is put into the room is what it is without the number
abbrev pub IsPutOpened : List DatagramRecord → List DatagramRecord → List ℕ → OpenEnd → List ℕ → Type 0
IsPutOpened sent copy before (opens.Opened count) later =
    CameBack sent copy × IsPut (spelling (opened copy)) before count later
IsPutOpened sent copy before opens.NoRoom later =
    CameBack sent copy × (length before < length (spelling (opened copy))) × (later ≡ before)
IsPutOpened sent copy before opens.OtherNumber later = (HasItsNumber sent copy → ⊥) × (later ≡ before)
IsPutOpened sent copy before (opens.OtherFrame k) later =
    HasItsNumber sent copy × IsStranger sent copy k × (later ≡ before)
IsPutOpened sent copy before (opens.NoFrame fault) later = ⊥
IsPutOpened sent copy before (opens.NotSent fault) later = ⊥
IsPutOpened sent copy before opens.Full later = ⊥
IsPutOpened sent copy before opens.BadForm later = ⊥

-- the packet spells a frame, and this is opened
pub record IsOpenedCopy (form : Form) (sent : List DatagramRecord) (packet before : List ℕ) (end : OpenEnd)
    (later : List ℕ) : Type 0 where
  pub copy : List DatagramRecord
  pub packet_is : IsSpelt form packet copy
  pub ends : IsPutOpened sent copy before end later

-- how the opening of a packet by a numbered frame ends: the first fault of one that is no frame is named
abbrev pub IsOpenedPacket : Form → List DatagramRecord → List ℕ → List ℕ → OpenEnd → List ℕ → Type 0
IsOpenedPacket form sent packet before end later =
    IsOpenedCopy form sent packet before end later
    ⊎ ((f : WireFault) × IsFirstFault form packet f × (end ≡ opens.NoFrame f) × (later ≡ before))

-- how it ends by a frame, which may have no place for a number
abbrev pub IsOpenedUnder : Form → ℕ → List DatagramRecord → List ℕ → List ℕ → OpenEnd → List ℕ → Type 0
IsOpenedUnder form number frame packet before end later =
    (HasPlace frame × IsOpenedPacket form (numbered number frame) packet before end later)
    ⊎ (IsFull frame × (end ≡ opens.Full) × (later ≡ before))

-- the sent bytes spell a frame, and the packet is opened by it
pub record IsOpenedFrame (form : Form) (number : ℕ) (sent packet before : List ℕ) (end : OpenEnd)
    (later : List ℕ) : Type 0 where
  pub frame : List DatagramRecord
  pub sent_is : IsSpelt form sent frame
  pub ends : IsOpenedUnder form number frame packet before end later

-- how it ends, whatever the number of the form and the sent bytes
abbrev pub IsOpened : Option Form → ℕ → List ℕ → List ℕ → List ℕ → OpenEnd → List ℕ → Type 0
IsOpened None number sent packet before end later = (end ≡ opens.BadForm) × (later ≡ before)
IsOpened (Some form) number sent packet before end later =
    IsOpenedFrame form number sent packet before end later
    ⊎ ((f : WireFault) × IsFirstFault form sent f × (end ≡ opens.NotSent f) × (later ≡ before))

-- ---- their numbers

abbrev pub seal_answer : SealEnd → WrittenAnswer
seal_answer (seals.Sealed count) = record { bytes = count; at = 0; code = number_of codes.Good }
seal_answer seals.NoRoom = record { bytes = 0; at = 0; code = number_of codes.NoRoom }
seal_answer (seals.NotSent fault) = record { bytes = 0; at = fault.at; code = number_of codes.NotSent }
seal_answer seals.Full = record { bytes = 0; at = 0; code = number_of codes.Full }

abbrev pub open_answer : OpenEnd → WrittenAnswer
open_answer (opens.Opened count) = record { bytes = count; at = 0; code = number_of codes.Good }
open_answer opens.NoRoom = record { bytes = 0; at = 0; code = number_of codes.NoRoom }
open_answer opens.OtherNumber = record { bytes = 0; at = 0; code = number_of codes.OtherNumber }
open_answer (opens.OtherFrame k) = record { bytes = 0; at = k; code = number_of codes.OtherFrame }
open_answer (opens.NoFrame fault) =
    record { bytes = 0; at = fault.at; code = number_of (fault_code fault.kind) }
open_answer (opens.NotSent fault) = record { bytes = 0; at = fault.at; code = number_of codes.NotSent }
open_answer opens.Full = record { bytes = 0; at = 0; code = number_of codes.Full }
open_answer opens.BadForm = record { bytes = 0; at = 0; code = number_of codes.BadForm }
