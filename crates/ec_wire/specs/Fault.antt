-- Bytes that are no frame have one first fault from the left: the header's tests come first, then
-- those of each datagram, then the one for what follows the frame.
use Rattle.std.specs.Prelude.{◌≡◌, ℕ, ◌+◌, ◌/◌, ◌%◌, ◌<◌, ◌⊎◌, Bool, false, not, ◌&&◌, ◌==◌, nat_lt, Option}
use Rattle.std.specs.Prelude.{Some, None, List, [], ◌∷◌, ◌++◌, length, take, drop, slice_index, All}
use Rattle.std.specs.Prelude.{if◌then◌else◌}
use Rattle.std.specs.Int.{w16, from_le_bytes}
use Rattle.ec_wire.specs.Datagram.{DatagramRecord, Fits}
use Rattle.ec_wire.specs.Spelling.{is_nil, front, body, body_length, spelling, IsFrameValue}
use Rattle.ec_wire.specs.Frame.{starts_from}
use Rattle.ec_wire.specs.Decoding.{length_field, data_length, says_more}
use Rattle.ec_wire.specs.declared.fault.Form.{Form}
use Rattle.ec_wire.specs.declared.fault.Form.TheVariants.{Ethernet, Udp}
use Rattle.ec_wire.specs.declared.fault.FaultKind.{FaultKind}
use Rattle.ec_wire.specs.declared.fault.FaultKind.TheVariants.{Short, BadType, Reserved, Empty, TooLong}
use Rattle.ec_wire.specs.declared.fault.FaultKind.TheVariants.{BadCommand, Overrun, MoreAtEnd, LeftOver}
use Rattle.ec_wire.specs.declared.fault.FaultKind.TheVariants.{Trailing}
use Rattle.ec_wire.specs.declared.fault.WireFault.{WireFault}
use Rattle.ec_wire.specs.declared.layout.TheConstants.{MAX_LENGTH}

-- a fault of this kind at this place
abbrev pub fault : FaultKind → ℕ → WireFault
fault kind at = record { at = at; kind = kind }

-- the fault of the first test that holds
abbrev pub first_of : List (Bool × WireFault) → Option WireFault
first_of [] = None
first_of (t ∷ ts) = if t.0 then Some t.1 else first_of ts

-- the header's two bytes as a number
abbrev pub header_word : List ℕ → ℕ
header_word bytes = from_le_bytes w16 bytes

-- the length of all datagrams that the header states
abbrev pub stated_length : List ℕ → ℕ
stated_length bytes = header_word bytes % 2048

-- where the frame ends by its header
abbrev pub frame_end : List ℕ → ℕ
frame_end bytes = 2 + stated_length bytes

-- the tests of the header, in their order
abbrev pub header_tests : List ℕ → List (Bool × WireFault)
header_tests bytes =
    (nat_lt (length bytes) 2, fault Short (length bytes))
    ∷ (not (header_word bytes / 4096 == 1), fault BadType 1)
    ∷ (not (header_word bytes / 2048 % 2 == 0), fault Reserved 1)
    ∷ (stated_length bytes == 0, fault Empty 0)
    ∷ (nat_lt MAX_LENGTH (stated_length bytes), fault TooLong 0)
    ∷ (nat_lt (length bytes) (frame_end bytes), fault Short (length bytes))
    ∷ []

-- the fault that the header's tests find
unfoldable pub header_fault : List ℕ → Option WireFault
header_fault bytes = first_of (header_tests bytes)

-- the tests of the datagram that begins at a place, in their order; `rest` is the frame from there on
abbrev pub datagram_tests : ℕ → List ℕ → List (Bool × WireFault)
datagram_tests at rest =
    (nat_lt (length rest) 12, fault LeftOver at)
    ∷ (nat_lt 14 (slice_index rest 0), fault BadCommand at)
    ∷ (not (length_field rest / 2048 % 8 == 0), fault Reserved (at + 7))
    ∷ (nat_lt (length rest) (12 + data_length rest), fault Overrun (at + 6))
    ∷ (says_more rest && (12 + data_length rest == length rest), fault MoreAtEnd (at + 7))
    ∷ (
      not (says_more rest) && nat_lt (12 + data_length rest) (length rest),
      fault LeftOver (at + 12 + data_length rest),
    )
    ∷ []

-- the fault that the tests of a datagram find
unfoldable pub datagram_fault : ℕ → List ℕ → Option WireFault
datagram_fault at rest = first_of (datagram_tests at rest)

-- Behind datagrams that are spelt well and each say that more follow, the next one of the frame is at fault.
pub record IsFaultyAfter (frame : List ℕ) (f : WireFault) (rs : List DatagramRecord)
    (rest : List ℕ) : Type 0 where
  pub fits : All Fits rs
  pub split : drop 2 frame ≡ front rs ++ rest
  pub more : 0 < length rest
  pub fails : datagram_fault (2 + length (front rs)) rest ≡ Some f

-- A datagram of the frame is at fault, and none before it.
abbrev pub FailsWithin : List ℕ → WireFault → Type 0
FailsWithin frame f = (rs : List DatagramRecord) × (rest : List ℕ) × IsFaultyAfter frame f rs rest

-- the bytes are a frame's spelling, with these bytes behind it
pub record IsSpeltBefore (bytes : List ℕ) (rs : List DatagramRecord) (behind : List ℕ) : Type 0 where
  pub value : IsFrameValue rs
  pub split : bytes ≡ spelling rs ++ behind

-- what a form lets stand behind a frame: any padding, or nothing
abbrev pub MayStandBehind : Form → List ℕ → Type 0
MayStandBehind Ethernet behind = Unit {0}
MayStandBehind Udp behind = behind ≡ []

-- The bytes are a frame of this value in this form.
abbrev pub IsSpelt : Form → List ℕ → List DatagramRecord → Type 0
IsSpelt form bytes rs = (behind : List ℕ) × IsSpeltBefore bytes rs behind × MayStandBehind form behind

-- A whole frame, and more bytes in a UDP packet.
abbrev pub IsTrailing : Form → List ℕ → WireFault → Type 0
IsTrailing form bytes f =
    (form ≡ Udp) × (rs : List DatagramRecord) × (behind : List ℕ)
    × IsSpeltBefore bytes rs behind × (0 < length behind) × (f ≡ fault Trailing (frame_end bytes))

-- This is the first fault of the bytes in this form.
abbrev pub IsFirstFault : Form → List ℕ → WireFault → Type 0
IsFirstFault form bytes f =
    (header_fault bytes ≡ Some f)
    ⊎ ((header_fault bytes ≡ None) × FailsWithin (take (frame_end bytes) bytes) f)
    ⊎ IsTrailing form bytes f

-- The frame's datagrams are those that begin at these places.
pub record AreSpelt (frame : List ℕ) (starts : List ℕ) (rs : List DatagramRecord) : Type 0 where
  pub some : is_nil rs ≡ false
  pub fits : All Fits rs
  pub split : drop 2 frame ≡ body rs
  pub starts_are : starts ≡ starts_from 2 rs

-- The bytes are a frame of this value in this form, it ends there, and its datagrams begin at these places.
pub record IsOutline (form : Form) (bytes : List ℕ) (rs : List DatagramRecord) (end : ℕ)
    (starts : List ℕ) : Type 0 where
  pub spelt : IsSpelt form bytes rs
  pub end_is : end ≡ 2 + body_length rs
  pub starts_are : starts ≡ starts_from 2 rs
