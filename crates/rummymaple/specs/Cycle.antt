-- A cycle by calls: frames are made one after the other, each from the first item that the one before did not
-- carry, and what came back of each is joined and judged.
use Rattle.std.specs.Prelude.{◌≡◌, ◌≤◌, ◌<◌, ℕ, ◌+◌, List, [], ◌∷◌, length, map, Ok}
use Rattle.ec_wire.specs.Datagram.{DatagramRecord}
use Rattle.ec_merge.specs.Frames.{IsOwn, joined_frame}
use Rattle.ec_line.specs.Answered.{sent_of}
use Rattle.ec_map.specs.Item.{ItemRecord}
use Rattle.ec_ring.specs.declared.weather.Came.{Came}
use Rattle.ec_master.specs.Cut.{frame_at}
use Rattle.ec_master.specs.Ports.{came_or}
use Rattle.ec_master.specs.Given.{AllThatCame}
use Rattle.ec_master.specs.declared.verdict.Verdict.TheVariants.{Good}
use Rattle.rummymaple.specs.Answers.{verdict_on}
use Rattle.rummymaple.specs.declared.item.Item.{Item}

-- a frame is joined of what came back of it, as rmp_join says
pub record IsJoinOf (sent : List DatagramRecord) (came : Came) (joined : List DatagramRecord) : Type 0 where
  pub own_a : IsOwn sent (came_or came.a sent)
  pub own_b : IsOwn sent (came_or came.b sent)
  pub joined_is : joined ≡ joined_frame sent (came_or came.a sent) (came_or came.b sent)

-- frames from an item on, one after the other as rmp_frame makes them until all items are carried: what came
-- back of each, and what it is joined to
unfoldable pub AreCalls : List ItemRecord → ℕ → List Came → List (List DatagramRecord) → Type 0
AreCalls items first [] [] = length items ≤ first
AreCalls items first [] (joined ∷ more) = ⊥
AreCalls items first (came ∷ later) [] = ⊥
AreCalls items first (came ∷ later) (joined ∷ more) =
    (first < length items) × IsJoinOf (sent_of (frame_at first items)) came joined
    × AreCalls items (first + length joined) later more

-- the verdict on each joined frame is good, as rmp_judge says
unfoldable pub AreGood : List Item → ℕ → List (List DatagramRecord) → Type 0
AreGood items first [] = Unit {0}
AreGood items first (joined ∷ more) =
    (verdict_on items first joined ≡ Good) × AreGood items (first + length joined) more

-- all that came, as ports give it
abbrev pub as_ports_give : List Came → AllThatCame
as_ports_give came = map (λ c. Ok c) came
