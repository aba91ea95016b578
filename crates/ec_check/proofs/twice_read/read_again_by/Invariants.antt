use Rattle.std.proofs.Common.{[], ◌∷◌}
use Rattle.ec_check.specs.Fit.{twice_read_rule}
use Rattle.ec_check.specs.Line.{controllers_by}
use Rattle.ec_check.specs.Search.{HasNoneBelow}
use Rattle.ec_check.proofs.twice_read.read_again_by.Given as goal

abbrev pub invariant-loop-later_fmmu : goal.invariant-loop-later_fmmu
invariant-loop-later_fmmu g l =
    HasNoneBelow (twice_read_rule ∷ l.first.slave ∷ l.first.number ∷ l.later_slave ∷ [])
    (controllers_by g.S.Mapped.controller l.line) l.later_fmmu
