-- What one frame carries of a master's items, and how many bytes their datagrams take.
use Rattle.std.specs.Prelude.{◌≡◌, ◌<◌, ◌≤◌, ◌+◌, ℕ, List, map, length, slice_range}
use Rattle.ec_wire.specs.Spelling.{body_length}
use Rattle.ec_wire.specs.declared.layout.TheConstants.{MAX_LENGTH}
use Rattle.ec_line.specs.After.{Entry}
use Rattle.ec_line.specs.Answered.{sent_of}
use Rattle.ec_map.specs.Item.{ItemRecord}
use Rattle.ec_master.specs.Cut.{entries_from, frame_at}
use Rattle.rummymaple.specs.Items.{asked}
use Rattle.rummymaple.specs.declared.cut.Carried.{Carried}
use Rattle.rummymaple.specs.declared.item.Item.{Item}

-- the items from one number up to another, each with its datagram
abbrev pub between : ℕ → ℕ → List ItemRecord → List Entry
between first end items = entries_from first (slice_range items first end)

-- the frame that begins with the item at `first` carries so many items, whose datagrams take so many bytes
pub record IsCarried (items : List Item) (image : List ℕ) (first : ℕ) (carried : Carried) : Type 0 where
  pub some : 0 < carried.items
  pub inside : first + carried.items ≤ length items
  pub items_are : frame_at first (map (asked image) items)
      ≡ between first (first + carried.items) (map (asked image) items)
  pub bytes_are : carried.bytes ≡ body_length (sent_of (frame_at first (map (asked image) items)))
  pub fits : carried.bytes ≤ MAX_LENGTH
