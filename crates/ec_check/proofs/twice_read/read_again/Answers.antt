use Rattle.std.proofs.Common.{[], ◌∷◌, below_more, arith, sym, ap, ◌∙◌}
use Rattle.std.proofs.lemmas.Result.{err_from_is_err_and}
use Rattle.ec_check.specs.Fit.{twice_read_rule}
use Rattle.ec_check.specs.Line.{controllers_by}
use Rattle.ec_check.proofs.LineLemmas.{length-controllers_by}
use Rattle.ec_check.proofs.SearchLemmas.{IsFirstOf-shorter, HasNone-all}
use Rattle.ec_check.proofs.ReadLemmas.{read_again_go_on, HasNone-earlier_slave, HasNone-not_read}
use Rattle.ec_check.proofs.twice_read.read_again.Goals as goal
use Rattle.ec_regs.specs.Pairs.{reads}

pub returns-then-not-reads : goal.returns-then-not-reads
returns-then-not-reads g c =
    HasNone-not_read (controllers_by g.S.Mapped.controller c.args.line.now) c.args.first.now.slave c.args.first.now.number
    (ap reads (sym c.requires.is) ∙ sym c.reads.ensures ∙ c.if-not-reads.true)

pub loop-later_slave-init : goal.loop-later_slave-init
loop-later_slave-init g c = λ n below.
    HasNone-earlier_slave (controllers_by g.S.Mapped.controller c.args.line.now) c.args.first.now.slave c.args.first.now.number n below

pub loop-later_slave-preserved : goal.loop-later_slave-preserved
loop-later_slave-preserved g c = below_more _ _ c.loop-later_slave.invariant c.in_ok-read_again_by.ensures

pub returns-in_err-read_again_by : goal.returns-in_err-read_again_by
returns-in_err-read_again_by g c =
    let p = err_from_is_err_and c.from_residual.result c.from_residual.ensures.1 in
    rw (p.1, p.2)
    (IsFirstOf-shorter (twice_read_rule ∷ c.args.first.now.slave ∷ c.args.first.now.number ∷ [])
    (controllers_by g.S.Mapped.controller c.args.line.now) c.loop-later_slave.later_slave _
    c.loop-later_slave.invariant c.in_err-read_again_by.ensures)

pub returns : goal.returns
returns g c =
    let line = controllers_by g.S.Mapped.controller c.args.line.now in
    HasNone-all
    (twice_read_rule ∷ c.args.first.now.slave ∷ c.args.first.now.number ∷ []) line
    c.loop-later_slave.later_slave
    c.loop-later_slave.invariant
    (read_again_go_on line c.args.first.now.slave c.args.first.now.number c.loop-later_slave.later_slave
    (omega (arith, length-controllers_by g.S.Mapped.controller c.args.line.now)))
