use Rattle.std.proofs.Common.{◌≡◌, false, take}
use Rattle.ec_map.specs.Item.{items_by}
use Rattle.ec_map.specs.Covered.{is_asked}
use Rattle.ec_map.proofs.covered.asked_until.Given as goal

-- no item so far asks for the bit
abbrev pub invariant-loop-item : goal.invariant-loop-item
invariant-loop-item g l = is_asked l.way l.bit (take l.item-index (items_by g.I.Asking.item l.items)) ≡ false
