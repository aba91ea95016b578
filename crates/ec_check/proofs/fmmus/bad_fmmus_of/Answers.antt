use Rattle.std.proofs.Common.{[], ◌∷◌, below_more, arith}
use Rattle.std.proofs.lemmas.Result.{err_from_is_err_and}
use Rattle.ec_check.specs.Fit.{bad_fmmu_rule}
use Rattle.ec_check.specs.Line.{controllers_by}
use Rattle.ec_check.proofs.SearchLemmas.{IsFirstOf-shorter, HasNone-all}
use Rattle.ec_check.proofs.FmmuLemmas.{bad_of_go_on}
use Rattle.ec_check.proofs.fmmus.bad_fmmus_of.Goals as goal

pub loop-fmmu-preserved : goal.loop-fmmu-preserved
loop-fmmu-preserved g c = below_more _ _ c.loop-fmmu.invariant c.in_ok-test_fmmu.ensures

pub returns-in_err-test_fmmu : goal.returns-in_err-test_fmmu
returns-in_err-test_fmmu g c =
    let p = err_from_is_err_and c.from_residual.result c.from_residual.ensures.1 in
    rw (p.1, p.2)
    (IsFirstOf-shorter (bad_fmmu_rule ∷ c.args.slave ∷ [])
    (controllers_by g.S.Mapped.controller c.args.line.now) c.loop-fmmu.fmmu _
    c.loop-fmmu.invariant c.in_err-test_fmmu.ensures)

pub returns : goal.returns
returns g c =
    let line = controllers_by g.S.Mapped.controller c.args.line.now in
    HasNone-all (bad_fmmu_rule ∷ c.args.slave ∷ []) line c.loop-fmmu.fmmu c.loop-fmmu.invariant
    (bad_of_go_on line c.args.slave c.loop-fmmu.fmmu (omega arith))
