use Rattle.std.proofs.Common.{[], ◌∷◌, below_more, arith}
use Rattle.std.proofs.lemmas.Result.{err_from_is_err_and}
use Rattle.ec_check.specs.Fit.{read_and_written_rule}
use Rattle.ec_check.specs.Line.{controllers_by}
use Rattle.ec_check.proofs.SearchLemmas.{IsFirstOf-shorter, HasNone-all}
use Rattle.ec_check.proofs.CrossedLemmas.{reader_go_on}
use Rattle.ec_check.proofs.crossed.written_elsewhere.Goals as goal

pub loop-reader_fmmu-preserved : goal.loop-reader_fmmu-preserved
loop-reader_fmmu-preserved g c =
    below_more _ _ c.loop-reader_fmmu.invariant
    (rw (c.standing_at.ensures.slave, c.standing_at.ensures.number) at c.in_ok-written_by_others.ensures)

pub returns-in_err-written_by_others : goal.returns-in_err-written_by_others
returns-in_err-written_by_others g c =
    let p = err_from_is_err_and c.from_residual.result c.from_residual.ensures.1 in
    rw (p.1, p.2)
    (IsFirstOf-shorter (read_and_written_rule ∷ c.args.reader ∷ [])
    (controllers_by g.S.Mapped.controller c.args.line.now) c.loop-reader_fmmu.reader_fmmu _
    c.loop-reader_fmmu.invariant
    (rw (c.standing_at.ensures.slave, c.standing_at.ensures.number) at c.in_err-written_by_others.ensures))

pub returns : goal.returns
returns g c =
    let line = controllers_by g.S.Mapped.controller c.args.line.now in
    HasNone-all (read_and_written_rule ∷ c.args.reader ∷ [])
    line c.loop-reader_fmmu.reader_fmmu c.loop-reader_fmmu.invariant
    (reader_go_on line c.args.reader c.loop-reader_fmmu.reader_fmmu (omega arith))
