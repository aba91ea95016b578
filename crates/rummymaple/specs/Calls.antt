-- A cycle by calls, by the bytes that go through them: frames are made one after the other, and rmp_join and
-- rmp_judge say of each, by whatever packets, that it is joined and good.
use Rattle.std.specs.Prelude.{◌≡◌, ◌≤◌, ◌<◌, ℕ, ◌+◌, Some, List, [], ◌∷◌, length, map, take}
use Rattle.ec_wire.specs.Datagram.{DatagramRecord}
use Rattle.ec_wire.specs.Fault.{IsSpelt}
use Rattle.ec_wire.specs.declared.fault.Form.{Form}
use Rattle.ec_wire.specs.declared.fault.Form.TheVariants.{Udp}
use Rattle.ec_line.specs.Answered.{sent_of}
use Rattle.ec_master.specs.Cut.{frame_at}
use Rattle.ec_master.specs.declared.verdict.Verdict.TheVariants.{Good}
use Rattle.rummymaple.specs.Copies.{Packets}
use Rattle.rummymaple.specs.Items.{asked}
use Rattle.rummymaple.specs.Join.{IsJoin}
use Rattle.rummymaple.specs.Judge.{IsJudged, IsStored}
use Rattle.rummymaple.specs.declared.item.Item.{Item}
use Rattle.rummymaple.specs.declared.join.Join.{Join}
use Rattle.rummymaple.specs.declared.join.JoinEnd.TheVariants.{Joined}
use Rattle.rummymaple.specs.declared.judge.JudgeEnd.TheVariants.{Judged}
use Rattle.rummymaple.specs.declared.store.StoreEnd.TheVariants.{Stored}

-- a frame that is told to be good: the bytes that were sent spell the frame that begins with an item, as
-- rmp_frame makes it, rmp_join puts these bytes to the front of a room, and rmp_judge calls them good
pub record IsGoodCall (form : Form) (image : List ℕ) (items : List Item) (first : ℕ) (packets : Packets)
    (bytes : List ℕ) (later : List Item) : Type 0 where
  pub sent : List ℕ
  pub join : Join
  pub before : List ℕ
  pub after : List ℕ
  pub sent_is : IsSpelt form sent (sent_of (frame_at first (map (asked image) items)))
  pub join_is : IsJoin (Some form) sent packets.a packets.b before join after
  pub joined : join.end ≡ Joined (length bytes)
  pub bytes_are : bytes ≡ take (length bytes) after
  pub judged : IsJudged items first bytes (Judged Good) later

-- such frames, one after the other, until all items are carried: the packets and the joined bytes of each,
-- and the items before the first and behind the last
unfoldable pub AreGoodCalls : Form → List ℕ → List Item → ℕ → List Packets → List (List ℕ) → List Item
    → Type 0
AreGoodCalls form image items first [] [] later = (length items ≤ first) × (later ≡ items)
AreGoodCalls form image items first [] (bytes ∷ more) later = ⊥
AreGoodCalls form image items first (packets ∷ after) [] later = ⊥
AreGoodCalls form image items first (packets ∷ after) (bytes ∷ more) later =
    (first < length items) × (next : List Item) × IsGoodCall form image items first packets bytes next
    × AreGoodCalls form image next (first + length (frame_at first (map (asked image) items))) after more
    later

-- joined bytes spell these frames
abbrev pub AreJoinedBytes : List (List ℕ) → List (List DatagramRecord) → Type 0
AreJoinedBytes [] [] = Unit {0}
AreJoinedBytes (bytes ∷ more) (joined ∷ frames) = IsSpelt Udp bytes joined × AreJoinedBytes more frames
AreJoinedBytes [] (joined ∷ frames) = ⊥
AreJoinedBytes (bytes ∷ more) [] = ⊥

-- rmp_store says of joined bytes, one after the other, that they are stored, each from the item at which the
-- frame before them ended: the image before the first, and the one behind the last
unfoldable pub AreStoredBytes : List Item → ℕ → List (List ℕ) → List (List DatagramRecord) → List ℕ
    → List ℕ → Type 0
AreStoredBytes items first [] [] before later = later ≡ before
AreStoredBytes items first [] (joined ∷ frames) before later = ⊥
AreStoredBytes items first (bytes ∷ more) [] before later = ⊥
AreStoredBytes items first (bytes ∷ more) (joined ∷ frames) before later =
    (between : List ℕ) × IsStored items first bytes before Stored between
    × AreStoredBytes items (first + length joined) more frames between later
