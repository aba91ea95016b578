use Rattle.std.proofs.Common.{[], ◌∷◌, below_more, arith}
use Rattle.std.proofs.lemmas.Result.{err_from_is_err_and}
use Rattle.ec_check.specs.Fit.{read_and_written_rule}
use Rattle.ec_check.specs.Line.{controllers_by}
use Rattle.ec_check.proofs.OneSideLemmas.{HasNone-exchanged_on_one_side}
use Rattle.ec_check.proofs.LineLemmas.{length-controllers_by}
use Rattle.ec_check.proofs.SearchLemmas.{IsFirstOf-shorter, HasNone-all}
use Rattle.ec_check.proofs.CrossedLemmas.{crossed_go_on}
use Rattle.ec_check.proofs.crossed.bits_read_and_written.Goals as goal

pub returns-then-exchanges_on_one_side : goal.returns-then-exchanges_on_one_side
returns-then-exchanges_on_one_side g c =
    HasNone-exchanged_on_one_side (controllers_by g.S.Mapped.controller c.args.line.now)
    (c.exchanges_on_one_side.ensures.0 c.if-exchanges_on_one_side.true)

pub loop-reader-preserved : goal.loop-reader-preserved
loop-reader-preserved g c = below_more _ _ c.loop-reader.invariant c.in_ok-written_elsewhere.ensures

pub returns-in_err-written_elsewhere : goal.returns-in_err-written_elsewhere
returns-in_err-written_elsewhere g c =
    let p = err_from_is_err_and c.from_residual.result c.from_residual.ensures.1 in
    rw (p.1, p.2)
    (IsFirstOf-shorter (read_and_written_rule ∷ [])
    (controllers_by g.S.Mapped.controller c.args.line.now) c.loop-reader.reader _
    c.loop-reader.invariant c.in_err-written_elsewhere.ensures)

pub returns : goal.returns
returns g c =
    let line = controllers_by g.S.Mapped.controller c.args.line.now in
    HasNone-all (read_and_written_rule ∷ []) line c.loop-reader.reader c.loop-reader.invariant
    (crossed_go_on line c.loop-reader.reader (omega (arith, length-controllers_by g.S.Mapped.controller c.args.line.now)))
