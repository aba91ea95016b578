use Rattle.std.proofs.Common.{[], ◌∷◌, below_more, arith}
use Rattle.std.proofs.lemmas.Result.{err_from_is_err_and}
use Rattle.ec_check.specs.Fit.{twice_read_rule}
use Rattle.ec_check.specs.Line.{controllers_by}
use Rattle.ec_check.proofs.SearchLemmas.{IsFirstOf-shorter, HasNone-all}
use Rattle.ec_check.proofs.ReadLemmas.{read_again_by_go_on, HasNone-read}
use Rattle.ec_check.proofs.twice_read.read_again_by.Goals as goal

pub loop-later_fmmu-init : goal.loop-later_fmmu-init
loop-later_fmmu-init g c = λ n below.
    HasNone-read
    (controllers_by g.S.Mapped.controller c.args.line.now) c.args.first.now.slave c.args.first.now.number c.args.later_slave n
    (λ bit twice. c.first_after-later_fmmu.ensures.before n below twice.order)

pub loop-later_fmmu-preserved : goal.loop-later_fmmu-preserved
loop-later_fmmu-preserved g c = below_more _ _ c.loop-later_fmmu.invariant c.in_ok-compare_read.ensures

pub returns-in_err-compare_read : goal.returns-in_err-compare_read
returns-in_err-compare_read g c =
    let p = err_from_is_err_and c.from_residual.result c.from_residual.ensures.1 in
    rw (p.1, p.2)
    (IsFirstOf-shorter
    (twice_read_rule ∷ c.args.first.now.slave ∷ c.args.first.now.number ∷ c.args.later_slave ∷ [])
    (controllers_by g.S.Mapped.controller c.args.line.now) c.loop-later_fmmu.later_fmmu _
    c.loop-later_fmmu.invariant c.in_err-compare_read.ensures)

pub returns : goal.returns
returns g c =
    let line = controllers_by g.S.Mapped.controller c.args.line.now in
    HasNone-all
    (twice_read_rule ∷ c.args.first.now.slave ∷ c.args.first.now.number ∷ c.args.later_slave ∷ []) line
    c.loop-later_fmmu.later_fmmu c.loop-later_fmmu.invariant
    (read_again_by_go_on line c.args.first.now.slave c.args.first.now.number c.args.later_slave
    c.loop-later_fmmu.later_fmmu (omega arith))
