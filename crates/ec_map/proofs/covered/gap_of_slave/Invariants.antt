use Rattle.std.proofs.Common.{[], ◌∷◌}
use Rattle.ec_check.specs.Line.{controllers_by}
use Rattle.ec_map.specs.Item.{items_by}
use Rattle.ec_map.specs.Covered.{IsGap, gap_numbers}
use Rattle.ec_map.specs.First.{HasNoneBelow}
use Rattle.ec_map.proofs.covered.gap_of_slave.Given as goal

abbrev pub invariant-loop-fmmu : goal.invariant-loop-fmmu
invariant-loop-fmmu g l =
    HasNoneBelow gap_numbers (IsGap (controllers_by g.S.Mapped.controller l.line) (items_by g.I.Asking.item l.items)) (l.slave ∷ []) l.fmmu
