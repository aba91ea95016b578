use Rattle.std.proofs.Common.{[], ◌∷◌, below_more, arith}
use Rattle.std.proofs.lemmas.Result.{err_from_is_err_and}
use Rattle.ec_check.specs.Fit.{outside_area_rule}
use Rattle.ec_check.specs.Line.{controllers_by}
use Rattle.ec_check.proofs.LineLemmas.{length-controllers_by}
use Rattle.ec_check.proofs.SearchLemmas.{IsFirstOf-shorter, HasNone-all}
use Rattle.ec_check.proofs.OutsideLemmas.{outside_go_on}
use Rattle.ec_check.proofs.outside.fmmus_outside.Goals as goal

pub loop-slave-preserved : goal.loop-slave-preserved
loop-slave-preserved g c = below_more _ _ c.loop-slave.invariant c.in_ok-outside_of.ensures

pub returns-in_err-outside_of : goal.returns-in_err-outside_of
returns-in_err-outside_of g c =
    let p = err_from_is_err_and c.from_residual.result c.from_residual.ensures.1 in
    rw (p.1, p.2)
    (IsFirstOf-shorter (outside_area_rule ∷ [])
    (controllers_by g.S.Mapped.controller c.args.line.now) c.loop-slave.slave _
    c.loop-slave.invariant c.in_err-outside_of.ensures)

pub returns : goal.returns
returns g c =
    let line = controllers_by g.S.Mapped.controller c.args.line.now in
    HasNone-all (outside_area_rule ∷ []) line c.loop-slave.slave c.loop-slave.invariant
    (outside_go_on line c.loop-slave.slave (omega (arith, length-controllers_by g.S.Mapped.controller c.args.line.now)))
