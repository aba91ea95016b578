use Rattle.std.proofs.Common.{[], ◌∷◌}
use Rattle.ec_check.specs.Fit.{twice_written_rule}
use Rattle.ec_check.specs.Line.{controllers_by}
use Rattle.ec_check.specs.Search.{HasNoneBelow}
use Rattle.ec_check.proofs.twice_written.written_twice_in.Given as goal

abbrev pub invariant-loop-fmmu : goal.invariant-loop-fmmu
invariant-loop-fmmu g l =
    HasNoneBelow (twice_written_rule ∷ l.slave ∷ []) (controllers_by g.S.Mapped.controller l.line) l.fmmu
