use Rattle.std.proofs.Common.{[], ◌∷◌}
use Rattle.ec_check.specs.Fit.{read_and_written_rule}
use Rattle.ec_check.specs.Line.{controllers_by}
use Rattle.ec_check.specs.Search.{HasNoneBelow}
use Rattle.ec_check.proofs.crossed.written_by_others.Given as goal

abbrev pub invariant-loop-writer : goal.invariant-loop-writer
invariant-loop-writer g l =
    HasNoneBelow (read_and_written_rule ∷ l.reader.slave ∷ l.reader.number ∷ [])
    (controllers_by g.S.Mapped.controller l.line) l.writer
