-- The first k of them are items.
use Rattle.std.proofs.Common.{ℕ, ◌<◌}
use Rattle.ec_map.specs.Item.{IsItem}
use Rattle.ec_master.specs.Work.{nth_item}
use Rattle.ec_master.proofs.work.Work.are_items.Given as goal

abbrev pub invariant-loop-k : goal.invariant-loop-k
invariant-loop-k l = (i : ℕ) → i < l.k → IsItem (nth_item l.self i)
