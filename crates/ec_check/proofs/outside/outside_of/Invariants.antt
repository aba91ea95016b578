use Rattle.std.proofs.Common.{[], ◌∷◌}
use Rattle.ec_check.specs.Fit.{outside_area_rule}
use Rattle.ec_check.specs.Line.{controllers_by}
use Rattle.ec_check.specs.Search.{HasNoneBelow}
use Rattle.ec_check.proofs.outside.outside_of.Given as goal

abbrev pub invariant-loop-fmmu : goal.invariant-loop-fmmu
invariant-loop-fmmu g l =
    HasNoneBelow (outside_area_rule ∷ l.slave ∷ []) (controllers_by g.S.Mapped.controller l.line) l.fmmu
