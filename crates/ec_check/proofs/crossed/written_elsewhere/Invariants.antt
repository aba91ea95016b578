use Rattle.std.proofs.Common.{[], ◌∷◌}
use Rattle.ec_check.specs.Fit.{read_and_written_rule}
use Rattle.ec_check.specs.Line.{controllers_by}
use Rattle.ec_check.specs.Search.{HasNoneBelow}
use Rattle.ec_check.proofs.crossed.written_elsewhere.Given as goal

abbrev pub invariant-loop-reader_fmmu : goal.invariant-loop-reader_fmmu
invariant-loop-reader_fmmu g l =
    HasNoneBelow (read_and_written_rule ∷ l.reader ∷ [])
    (controllers_by g.S.Mapped.controller l.line) l.reader_fmmu
