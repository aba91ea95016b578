use Rattle.std.proofs.Common.{[], ◌∷◌, below_more, arith, sym, ap, ◌∙◌}
use Rattle.std.proofs.lemmas.Result.{err_from_is_err_and}
use Rattle.ec_check.specs.Fit.{read_and_written_rule}
use Rattle.ec_check.specs.Line.{controllers_by}
use Rattle.ec_check.proofs.LineLemmas.{length-controllers_by}
use Rattle.ec_check.proofs.SearchLemmas.{IsFirstOf-shorter, HasNone-all}
use Rattle.ec_check.proofs.CrossedLemmas.{reader_fmmu_go_on, HasNone-not_reading}
use Rattle.ec_check.proofs.crossed.written_by_others.Goals as goal
use Rattle.ec_regs.specs.Pairs.{reads}

pub returns-then-not-reads : goal.returns-then-not-reads
returns-then-not-reads g c =
    HasNone-not_reading (controllers_by g.S.Mapped.controller c.args.line.now) c.args.reader.now.slave c.args.reader.now.number
    (ap reads (sym c.requires.is) ∙ sym c.reads.ensures ∙ c.if-not-reads.true)

pub loop-writer-preserved : goal.loop-writer-preserved
loop-writer-preserved g c = below_more _ _ c.loop-writer.invariant c.in_ok-written_by.ensures

pub returns-in_err-written_by : goal.returns-in_err-written_by
returns-in_err-written_by g c =
    let p = err_from_is_err_and c.from_residual.result c.from_residual.ensures.1 in
    rw (p.1, p.2)
    (IsFirstOf-shorter (read_and_written_rule ∷ c.args.reader.now.slave ∷ c.args.reader.now.number ∷ [])
    (controllers_by g.S.Mapped.controller c.args.line.now) c.loop-writer.writer _
    c.loop-writer.invariant c.in_err-written_by.ensures)

pub returns : goal.returns
returns g c =
    let line = controllers_by g.S.Mapped.controller c.args.line.now in
    HasNone-all
    (read_and_written_rule ∷ c.args.reader.now.slave ∷ c.args.reader.now.number ∷ []) line
    c.loop-writer.writer
    c.loop-writer.invariant
    (reader_fmmu_go_on line c.args.reader.now.slave c.args.reader.now.number c.loop-writer.writer
    (omega (arith, length-controllers_by g.S.Mapped.controller c.args.line.now)))
