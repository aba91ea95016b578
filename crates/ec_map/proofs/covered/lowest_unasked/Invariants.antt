use Rattle.std.proofs.Common.{◌≡◌, ℕ, ◌-◌, ◌<◌, ◌≤◌, true}
use Rattle.ec_map.specs.Item.{items_by}
use Rattle.ec_map.specs.Covered.{is_asked}
use Rattle.ec_map.proofs.covered.lowest_unasked.Given as goal

-- each bit so far is asked for
abbrev pub invariant-loop-bit : goal.invariant-loop-bit
invariant-loop-bit g l = record {
  from : l.from ≤ l.bit;
  asked : (n : ℕ) → l.from ≤ n → n < l.bit → is_asked l.way n (items_by g.I.Asking.item l.items) ≡ true;
}

abbrev pub decreases-loop-bit : goal.decreases-loop-bit
decreases-loop-bit g l = l.to - l.bit
