use Rattle.std.proofs.Common.{ℕ, ◌<◌}
use Rattle.ec_check.specs.Line.{controllers_by}
use Rattle.ec_map.specs.Item.{items_by}
use Rattle.ec_map.specs.NotShown.{LeavesBytes}
use Rattle.ec_map.proofs.not_shown.first_left.Given as goal

abbrev pub invariant-loop-k : goal.invariant-loop-k
invariant-loop-k g l =
    (n : ℕ) → n < l.k → ¬ LeavesBytes (controllers_by g.S.Mapped.controller l.line) (items_by g.I.Asking.item l.items) l.slave l.area l.last n
