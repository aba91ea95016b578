use Rattle.std.proofs.Common.{[]}
use Rattle.ec_check.specs.Line.{controllers_by}
use Rattle.ec_map.specs.Item.{items_by}
use Rattle.ec_map.specs.NotShown.{IsNotShown, not_shown_numbers}
use Rattle.ec_map.specs.First.{HasNoneBelow}
use Rattle.ec_map.proofs.not_shown.first_area_not_shown.Given as goal

abbrev pub invariant-loop-slave : goal.invariant-loop-slave
invariant-loop-slave g l = HasNoneBelow not_shown_numbers (IsNotShown (controllers_by g.S.Mapped.controller l.line) (items_by g.I.Asking.item l.items)) [] l.slave
