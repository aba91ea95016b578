-- A cycle by turns: frames are made one after the other, each from the first item that has no good answer
-- yet, and what came back of each is joined, and judged good.
use Rattle.std.specs.Prelude.{◌≡◌, ◌≤◌, ◌<◌, ℕ, List, [], ◌∷◌, length, map}
use Rattle.ec_wire.specs.Datagram.{DatagramRecord}
use Rattle.ec_wire.specs.Fault.{IsSpelt}
use Rattle.ec_wire.specs.declared.fault.Form.{Form}
use Rattle.ec_line.specs.Answered.{sent_of}
use Rattle.ec_ring.specs.declared.weather.Came.{Came}
use Rattle.ec_master.specs.Cut.{frame_at}
use Rattle.ec_master.specs.declared.verdict.Verdict.TheVariants.{Good}
use Rattle.rummymaple.specs.Answers.{verdict_on}
use Rattle.rummymaple.specs.Copies.{Packets}
use Rattle.rummymaple.specs.Cycle.{IsJoinOf}
use Rattle.rummymaple.specs.Items.{asked}
use Rattle.rummymaple.specs.Turn.{Held, judged, IsTurn}
use Rattle.rummymaple.specs.declared.cycle.Turn.{Turn}
use Rattle.rummymaple.specs.declared.cycle.TurnEnd.TheVariants.{Judged}

-- from what a master holds on: what came back of each frame, what it is joined to, and what the master holds
-- behind the last one
unfoldable pub AreTurns : Held → List Came → List (List DatagramRecord) → Held → Type 0
AreTurns h [] [] later = (length h.items ≤ h.cycle.first) × (later ≡ h)
AreTurns h [] (joined ∷ more) later = ⊥
AreTurns h (came ∷ after) [] later = ⊥
AreTurns h (came ∷ after) (joined ∷ more) later =
    (h.cycle.first < length h.items)
    × IsJoinOf (sent_of (frame_at h.cycle.first (map (asked h.image) h.items))) came joined
    × (verdict_on h.items h.cycle.first joined ≡ Good)
    × AreTurns (judged h joined Good) after more later

-- ---- by packets

-- a turn of which rmp_cycle_came says that it is good: the bytes that were sent spell the frame that begins
-- with the first item that has no good answer yet, as rmp_cycle_next makes it
pub record IsGoodTurn (form : Form) (h : Held) (packets : Packets) (later : Held) : Type 0 where
  pub sent : List ℕ
  pub turn : Turn
  pub sent_is : IsSpelt form sent (sent_of (frame_at h.cycle.first (map (asked h.image) h.items)))
  pub turn_is : IsTurn sent packets.a packets.b h turn later
  pub good : turn.end ≡ Judged Good

-- such turns, one after the other, until all items have good answers
unfoldable pub AreGoodTurns : Form → Held → List Packets → Held → Type 0
AreGoodTurns form h [] later = (length h.items ≤ h.cycle.first) × (later ≡ h)
AreGoodTurns form h (packets ∷ more) later =
    (h.cycle.first < length h.items)
    × (next : Held) × IsGoodTurn form h packets next × AreGoodTurns form next more later
