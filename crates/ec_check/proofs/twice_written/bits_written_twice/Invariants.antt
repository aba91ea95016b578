use Rattle.std.proofs.Common.{[], ◌∷◌}
use Rattle.ec_check.specs.Fit.{twice_written_rule}
use Rattle.ec_check.specs.Line.{controllers_by}
use Rattle.ec_check.specs.Search.{HasNoneBelow}
use Rattle.ec_check.proofs.twice_written.bits_written_twice.Given as goal

abbrev pub invariant-loop-slave : goal.invariant-loop-slave
invariant-loop-slave g l =
    HasNoneBelow (twice_written_rule ∷ []) (controllers_by g.S.Mapped.controller l.line) l.slave
