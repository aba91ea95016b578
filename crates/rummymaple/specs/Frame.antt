-- The items of a master go out in frames: from an item on as many onto a frame as it holds, and so on with
-- the first that did not fit.
use Rattle.std.specs.Prelude.{◌≡◌, ◌<◌, ◌≤◌, ℕ, List, map, length}
use Rattle.ec_wire.specs.Datagram.{DatagramRecord}
use Rattle.ec_wire.specs.Spelling.{spelling}
use Rattle.ec_line.specs.Answered.{sent_of}
use Rattle.ec_master.specs.Cut.{frame_at}
use Rattle.rummymaple.specs.Items.{asked, AreTaken, IsFirstRefused}
use Rattle.rummymaple.specs.Join.{IsPut}
use Rattle.rummymaple.specs.Numbers.{number_of}
use Rattle.rummymaple.specs.declared.frame.FrameAnswer.{FrameAnswer}
use Rattle.rummymaple.specs.declared.frame.FrameEnd.{FrameEnd}
use Rattle.rummymaple.specs.declared.frame.FrameEnd.TheVariants.{Made, NoRoom, TooMany, NoItem, Refused}
use Rattle.rummymaple.specs.declared.item.Item.{Item}
use Rattle.rummymaple.specs.declared.item.TheConstants.{MAX_ITEMS}
use Rattle.rummymaple.specs.declared.numbers.Code.TheVariants as codes

-- a frame is put into the room, and its datagrams are counted
pub record IsMade (frame : List DatagramRecord) (before : List ℕ) (items bytes : ℕ) (later : List ℕ)
    : Type 0 where
  pub items_are : items ≡ length frame
  pub put : IsPut (spelling frame) before bytes later

-- how the putting of a frame into a room ends
abbrev pub IsPutFrame : List DatagramRecord → List ℕ → FrameEnd → List ℕ → Type 0
IsPutFrame frame before (Made items bytes) later = IsMade frame before items bytes later
IsPutFrame frame before NoRoom later = (length before < length (spelling frame)) × (later ≡ before)
IsPutFrame frame before TooMany later = ⊥
IsPutFrame frame before NoItem later = ⊥
IsPutFrame frame before (Refused at why) later = ⊥

-- the frame that begins with the item at `first` is put into the room: that of the cut
pub record IsCutFrame (items : List Item) (image : List ℕ) (first : ℕ) (before : List ℕ) (end : FrameEnd)
    (later : List ℕ) : Type 0 where
  pub numbers : length items ≤ MAX_ITEMS
  pub inside : first < length items
  pub taken : AreTaken (length image) items
  pub is : IsPutFrame (sent_of (frame_at first (map (asked image) items))) before end later

-- how the making of the frame that begins with the item at `first` ends
abbrev pub IsFrame : List Item → List ℕ → ℕ → List ℕ → FrameEnd → List ℕ → Type 0
IsFrame items image first before (Made count bytes) later =
    IsCutFrame items image first before (Made count bytes) later
IsFrame items image first before NoRoom later = IsCutFrame items image first before NoRoom later
IsFrame items image first before TooMany later = (MAX_ITEMS < length items) × (later ≡ before)
IsFrame items image first before NoItem later =
    (length items ≤ MAX_ITEMS) × (length items ≤ first) × (later ≡ before)
IsFrame items image first before (Refused at why) later =
    (length items ≤ MAX_ITEMS) × (first < length items)
    × IsFirstRefused (length image) items (record { at = at; why = why }) × (later ≡ before)

-- it in numbers
abbrev pub frame_answer : FrameEnd → FrameAnswer
frame_answer (Made items bytes) =
    record { bytes = bytes; items = items; at = 0; code = number_of codes.Good }
frame_answer NoRoom = record { bytes = 0; items = 0; at = 0; code = number_of codes.NoRoom }
frame_answer TooMany = record { bytes = 0; items = 0; at = 0; code = number_of codes.TooMany }
frame_answer NoItem = record { bytes = 0; items = 0; at = 0; code = number_of codes.NoItem }
frame_answer (Refused at why) = record { bytes = 0; items = 0; at = at; code = number_of why }
