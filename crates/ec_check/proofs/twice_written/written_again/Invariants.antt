use Rattle.std.proofs.Common.{[], ◌∷◌}
use Rattle.ec_check.specs.Fit.{twice_written_rule}
use Rattle.ec_check.specs.Line.{controllers_by}
use Rattle.ec_check.specs.Search.{HasNoneBelow}
use Rattle.ec_check.proofs.twice_written.written_again.Given as goal

abbrev pub invariant-loop-later_fmmu : goal.invariant-loop-later_fmmu
invariant-loop-later_fmmu g l =
    HasNoneBelow (twice_written_rule ∷ l.slave ∷ l.fmmu ∷ [])
    (controllers_by g.S.Mapped.controller l.line) l.later_fmmu
