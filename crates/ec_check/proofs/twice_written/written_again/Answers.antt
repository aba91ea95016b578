use Rattle.std.proofs.Common.{[], ◌∷◌, below_more, arith, ◌<◌}
use Rattle.std.proofs.lemmas.Result.{err_from_is_err_and}
use Rattle.ec_check.specs.Fit.{twice_written_rule}
use Rattle.ec_check.specs.Line.{controllers_by}
use Rattle.ec_check.proofs.SearchLemmas.{IsFirstOf-shorter, HasNone-all}
use Rattle.ec_check.proofs.WrittenLemmas.{written_again_go_on, HasNone-written}
use Rattle.ec_check.proofs.twice_written.written_again.Goals as goal

pub loop-later_fmmu-init : goal.loop-later_fmmu-init
loop-later_fmmu-init g c = λ n below.
    HasNone-written (controllers_by g.S.Mapped.controller c.args.line.now) c.args.slave c.args.fmmu n
    (λ bit twice. let order : c.args.fmmu < n = twice.order in absurd (omega arith))

pub loop-later_fmmu-preserved : goal.loop-later_fmmu-preserved
loop-later_fmmu-preserved g c = below_more _ _ c.loop-later_fmmu.invariant c.in_ok-compare_written.ensures

pub returns-in_err-compare_written : goal.returns-in_err-compare_written
returns-in_err-compare_written g c =
    let p = err_from_is_err_and c.from_residual.result c.from_residual.ensures.1 in
    rw (p.1, p.2)
    (IsFirstOf-shorter (twice_written_rule ∷ c.args.slave ∷ c.args.fmmu ∷ [])
    (controllers_by g.S.Mapped.controller c.args.line.now) c.loop-later_fmmu.later_fmmu _
    c.loop-later_fmmu.invariant c.in_err-compare_written.ensures)

pub returns : goal.returns
returns g c =
    let line = controllers_by g.S.Mapped.controller c.args.line.now in
    HasNone-all
    (twice_written_rule ∷ c.args.slave ∷ c.args.fmmu ∷ []) line
    c.loop-later_fmmu.later_fmmu c.loop-later_fmmu.invariant
    (written_again_go_on line c.args.slave c.args.fmmu c.loop-later_fmmu.later_fmmu (omega arith))
