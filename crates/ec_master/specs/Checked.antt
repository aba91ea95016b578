-- A ring and items that were checked once, with what is expected of each counter.
use Rattle.std.specs.Prelude.{◌≡◌, ℕ, List, length, map, take}
use Rattle.ec_map.specs.Item.{ItemRecord}
use Rattle.ec_map.specs.Share.{expected_of}
use Rattle.ec_ring.specs.Ring.{RingState, line_of}
use Rattle.ec_master.specs.Unordered.{IsAccepted}

-- a ring and what a master asks of it in each cycle
pub record Checked : Type 0 where
  pub ring : RingState
  pub work : List ItemRecord

-- the items are accepted on the ring, and the first of these numbers are what is expected of their counters
pub record IsChecked (ring : RingState) (items : List ItemRecord) (expected : List ℕ) : Type 0 where
  pub accepted : IsAccepted ring.slaves items
  pub expects : take (length items) expected ≡ map (expected_of (line_of ring)) items
