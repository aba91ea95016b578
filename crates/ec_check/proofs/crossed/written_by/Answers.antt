use Rattle.std.proofs.Common.{[], ◌∷◌, below_more, arith, sym}
use Rattle.std.proofs.lemmas.Result.{err_from_is_err_and}
use Rattle.ec_check.specs.Fit.{read_and_written_rule}
use Rattle.ec_check.specs.Line.{controllers_by}
use Rattle.ec_check.proofs.SearchLemmas.{IsFirstOf-shorter, HasNone-all}
use Rattle.ec_check.proofs.CrossedLemmas.{writer_go_on, HasNone-itself}
use Rattle.ec_check.proofs.crossed.written_by.Goals as goal

pub returns-then-writer-reader : goal.returns-then-writer-reader
returns-then-writer-reader g c =
    HasNone-itself
    (controllers_by g.S.Mapped.controller c.args.line.now) c.args.reader.now.slave c.args.reader.now.number c.args.writer
    (sym c.if-writer-reader.true)

pub loop-writer_fmmu-preserved : goal.loop-writer_fmmu-preserved
loop-writer_fmmu-preserved g c = below_more _ _ c.loop-writer_fmmu.invariant c.in_ok-compare_crossed.ensures

pub returns-in_err-compare_crossed : goal.returns-in_err-compare_crossed
returns-in_err-compare_crossed g c =
    let p = err_from_is_err_and c.from_residual.result c.from_residual.ensures.1 in
    rw (p.1, p.2)
    (IsFirstOf-shorter
    (read_and_written_rule ∷ c.args.reader.now.slave ∷ c.args.reader.now.number ∷ c.args.writer ∷ [])
    (controllers_by g.S.Mapped.controller c.args.line.now) c.loop-writer_fmmu.writer_fmmu _
    c.loop-writer_fmmu.invariant c.in_err-compare_crossed.ensures)

pub returns : goal.returns
returns g c =
    let line = controllers_by g.S.Mapped.controller c.args.line.now in
    HasNone-all
    (read_and_written_rule ∷ c.args.reader.now.slave ∷ c.args.reader.now.number ∷ c.args.writer ∷ []) line
    c.loop-writer_fmmu.writer_fmmu c.loop-writer_fmmu.invariant
    (writer_go_on line c.args.reader.now.slave c.args.reader.now.number c.args.writer
    c.loop-writer_fmmu.writer_fmmu (omega arith))
