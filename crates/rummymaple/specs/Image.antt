-- The process image behind a cycle: each byte into which an item reads is that of the item's answer, and
-- every other byte is as it was (IEC 61158-4-12: a read service fills the data, a write service leaves them).
-- Where the places of items overlap, the last item that reads prevails.
use Rattle.std.specs.Prelude.{◌≡◌, ◌<◌, ◌≤◌, ℕ, ◌+◌, ◌-◌, true, Some, List, [], ◌∷◌, length}
use Rattle.std.specs.Prelude.{slice_get, slice_range}
use Rattle.ec_wire.specs.Command.{reads}
use Rattle.ec_wire.specs.Datagram.{DatagramRecord}
use Rattle.ec_wire.specs.Kind.{command_of}
use Rattle.ec_map.specs.Item.{ItemRecord}
use Rattle.rummymaple.specs.Items.{kind_named}
use Rattle.rummymaple.specs.Judge.{IsStoredFrame}
use Rattle.rummymaple.specs.declared.item.Item.{Item}
use Rattle.rummymaple.specs.declared.store.StoreEnd.TheVariants.{Stored}

-- the byte at this offset lies in the item's place, and the item reads
pub record ReadsInto (i : Item) (at : ℕ) : Type 0 where
  pub kind : reads (command_of (kind_named i.kind)) ≡ true
  pub from : i.offset ≤ at
  pub until : at < i.offset + i.length

-- the item with this number is the last that reads into the byte
pub record IsLastInto (items : List Item) (at k : ℕ) (i : Item) : Type 0 where
  pub there : slice_get items k ≡ Some i
  pub here : ReadsInto i at
  pub after : (m : ℕ) (other : Item) → k < m → slice_get items m ≡ Some other → ¬ ReadsInto other at

-- the image as it was, and as it is behind items that have these answers: the bytes of the answer stand where
-- the item is the last that reads into them (`byte`), all of them where it is so in its whole place (`whole`)
pub record HasAnswers (items : List Item) (answered : List ItemRecord) (before later : List ℕ) : Type 0 where
  pub size : length later ≡ length before
  pub whole : (k : ℕ) (i : Item) (r : ItemRecord) → slice_get items k ≡ Some i → slice_get answered k ≡ Some r
      → ((at : ℕ) → i.offset ≤ at → at < i.offset + i.length → IsLastInto items at k i)
      → slice_range later i.offset (i.offset + i.length) ≡ r.payload
  pub byte : (at k : ℕ) (i : Item) (r : ItemRecord) → IsLastInto items at k i → slice_get answered k ≡ Some r
      → slice_get later at ≡ slice_get r.payload (at - i.offset)
  pub rest : (at : ℕ) → ((k : ℕ) (i : Item) → slice_get items k ≡ Some i → ¬ ReadsInto i at)
      → slice_get later at ≡ slice_get before at

-- joined frames are stored one after the other, as rmp_store does, each from the item at which the one before
-- it ended: the image before the first, and the one behind the last
unfoldable pub AreStored : List Item → ℕ → List (List DatagramRecord) → List ℕ → List ℕ → Type 0
AreStored items first [] before later = later ≡ before
AreStored items first (joined ∷ more) before later =
    (between : List ℕ) × IsStoredFrame items first joined before Stored between
    × AreStored items (first + length joined) more between later
