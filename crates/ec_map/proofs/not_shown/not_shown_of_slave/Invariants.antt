use Rattle.std.proofs.Common.{[], ◌∷◌}
use Rattle.ec_check.specs.Line.{controllers_by}
use Rattle.ec_map.specs.Item.{items_by}
use Rattle.ec_map.specs.NotShown.{IsNotShown, not_shown_numbers}
use Rattle.ec_map.specs.First.{HasNoneBelow}
use Rattle.ec_map.proofs.not_shown.not_shown_of_slave.Given as goal

abbrev pub invariant-loop-number : goal.invariant-loop-number
invariant-loop-number g l =
    HasNoneBelow not_shown_numbers (IsNotShown (controllers_by g.S.Mapped.controller l.line) (items_by g.I.Asking.item l.items)) (l.slave ∷ []) l.number
