use Rattle.std.proofs.Common.{[], ◌∷◌, below_more, arith}
use Rattle.std.proofs.lemmas.Result.{err_from_is_err_and}
use Rattle.ec_check.specs.Fit.{outside_area_rule}
use Rattle.ec_check.specs.Line.{controllers_by}
use Rattle.ec_check.proofs.SearchLemmas.{IsFirstOf-shorter, HasNone-all}
use Rattle.ec_check.proofs.OutsideLemmas.{outside_of_go_on}
use Rattle.ec_check.proofs.outside.outside_of.Goals as goal

pub loop-fmmu-preserved : goal.loop-fmmu-preserved
loop-fmmu-preserved g c = below_more _ _ c.loop-fmmu.invariant c.in_ok-place_fmmu.ensures

pub returns-in_err-place_fmmu : goal.returns-in_err-place_fmmu
returns-in_err-place_fmmu g c =
    let p = err_from_is_err_and c.from_residual.result c.from_residual.ensures.1 in
    rw (p.1, p.2)
    (IsFirstOf-shorter (outside_area_rule ∷ c.args.slave ∷ [])
    (controllers_by g.S.Mapped.controller c.args.line.now) c.loop-fmmu.fmmu _
    c.loop-fmmu.invariant c.in_err-place_fmmu.ensures)

pub returns : goal.returns
returns g c =
    let line = controllers_by g.S.Mapped.controller c.args.line.now in
    HasNone-all (outside_area_rule ∷ c.args.slave ∷ []) line c.loop-fmmu.fmmu c.loop-fmmu.invariant
    (outside_of_go_on line c.args.slave c.loop-fmmu.fmmu (omega arith))
