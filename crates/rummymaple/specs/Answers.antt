-- What a joined frame gives the items that it answers: a verdict on their working counters, what came back of
-- each, and the image with the data of those that read.
use Rattle.std.specs.Prelude.{◌≡◌, ◌<◌, ◌≤◌, ◌==◌, ◌&&◌, ℕ, ◌+◌, ◌-◌, Bool, true, false, if◌then◌else◌, Some}
use Rattle.std.specs.Prelude.{List, [], ◌∷◌, ◌++◌, length, map, take, drop, slice_get}
use Rattle.ec_wire.specs.Command.{reads}
use Rattle.ec_wire.specs.Datagram.{DatagramRecord, nth, code_of, adp_of}
use Rattle.ec_wire.specs.Kind.{command_of}
use Rattle.ec_master.specs.Verdict.{verdict_from}
use Rattle.ec_master.specs.declared.verdict.Verdict.{Verdict}
use Rattle.rummymaple.specs.Items.{asked, kind_named}
use Rattle.rummymaple.specs.declared.item.Item.{Item}

-- ---- which item a datagram answers

-- a datagram of the command and with as many data as the item with its index asks
abbrev pub answers : Item → ℕ → DatagramRecord → Bool
answers i k d = code_of d.command == i.kind && d.index == k && length d.payload == i.length

-- the datagrams are answers of the items from `first` on, each of its own
pub record AreAnswered (items : List Item) (first : ℕ) (frame : List DatagramRecord) : Type 0 where
  pub there : length frame ≤ length items - first
  pub each : (j : ℕ) (i : Item) → j < length frame → slice_get items (first + j) ≡ Some i
      → answers i (first + j) (nth frame j) ≡ true

-- this datagram is the first that is not the answer of its item, or for which there is none
pub record IsFirstOther (items : List Item) (first : ℕ) (frame : List DatagramRecord) (j : ℕ) : Type 0 where
  pub in_frame : j < length frame
  pub in_items : j ≤ length items - first
  pub before : (m : ℕ) (i : Item) → m < j → slice_get items (first + m) ≡ Some i
      → answers i (first + m) (nth frame m) ≡ true
  pub here : (i : Item) → slice_get items (first + j) ≡ Some i
      → answers i (first + j) (nth frame j) ≡ false

-- ---- the counters

-- the verdict on the items from `first` on, of which a frame has the answers
abbrev pub verdict_on : List Item → ℕ → List DatagramRecord → Verdict
verdict_on items first frame =
    verdict_from first (drop first (map (asked []) items)) frame (drop first (map (λ i. i.expected) items))

-- an item and what came back of it: its counter, and the ADP of a broadcast read
abbrev pub came_back : Item → DatagramRecord → Item
came_back i d = record i { came = d.counter; passed = if i.kind == 7 then adp_of d.address else 0 }

-- items and what came back of each; those for which nothing did stay
abbrev pub with_counts : List Item → List DatagramRecord → List Item
with_counts (i ∷ is) (d ∷ ds) = came_back i d ∷ with_counts is ds
with_counts is _ = is

-- those from number k on
abbrev pub with_counts_at : ℕ → List Item → List DatagramRecord → List Item
with_counts_at k is ds = take k is ++ with_counts (drop k is) ds

-- ---- the data

-- the image with the data of an item that reads; one that only writes leaves it as it is
abbrev pub stored_item : Item → DatagramRecord → List ℕ → List ℕ
stored_item i d image =
    if reads (command_of (kind_named i.kind))
    then take i.offset image ++ (d.payload ++ drop (i.offset + i.length) image) else image

-- the image with the data of one item after the other
unfoldable pub stored : List Item → List DatagramRecord → List ℕ → List ℕ
stored (i ∷ is) (d ∷ ds) image = stored is ds (stored_item i d image)
stored _ _ image = image
