-- The frame of a turn is put into a room.
use Rattle.std.specs.Prelude.{◌≡◌, ◌<◌, ℕ, List, length, Option, None, Some}
use Rattle.ec_wire.specs.Datagram.{DatagramRecord}
use Rattle.ec_wire.specs.Spelling.{spelling}
use Rattle.rummymaple.specs.Join.{IsPut}
use Rattle.rummymaple.specs.Numbers.{number_of}
use Rattle.rummymaple.specs.declared.numbers.Code.{Code}
use Rattle.rummymaple.specs.declared.numbers.Code.TheVariants as codes
use Rattle.rummymaple.specs.declared.packet.WrittenAnswer.{WrittenAnswer}
use Rattle.rummymaple.specs.declared.sent.SentEnd.{SentEnd}
use Rattle.rummymaple.specs.declared.sent.SentEnd.TheVariants.{Made, Nothing, NoRoom, BadNumbers, Over}

-- a frame that is there stands at the front of the room, or does not fit it
abbrev pub IsFramePut : List DatagramRecord → List ℕ → SentEnd → List ℕ → Type 0
IsFramePut frame before (Made count) later = IsPut (spelling frame) before count later
IsFramePut frame before NoRoom later = (length before < length (spelling frame)) × (later ≡ before)
IsFramePut frame before Nothing later = ⊥
IsFramePut frame before BadNumbers later = ⊥
IsFramePut frame before Over later = ⊥

abbrev pub IsSentPut : Option (List DatagramRecord) → List ℕ → SentEnd → List ℕ → Type 0
IsSentPut None before end later = (end ≡ Nothing) × (later ≡ before)
IsSentPut (Some frame) before end later = IsFramePut frame before end later

-- ---- its numbers

abbrev pub sent_code : SentEnd → Code
sent_code (Made count) = codes.Good
sent_code Nothing = codes.Good
sent_code NoRoom = codes.NoRoom
sent_code BadNumbers = codes.BadNumbers
sent_code Over = codes.NotUnderWay

abbrev pub sent_count : SentEnd → ℕ
sent_count (Made count) = count
sent_count Nothing = 0
sent_count NoRoom = 0
sent_count BadNumbers = 0
sent_count Over = 0

abbrev pub sent_answer : SentEnd → WrittenAnswer
sent_answer end = record { bytes = sent_count end; at = 0; code = number_of (sent_code end) }
