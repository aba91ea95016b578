use Rattle.std.proofs.Common.{[], ◌∷◌, below_more, arith}
use Rattle.std.proofs.lemmas.Result.{err_from_is_err_and}
use Rattle.ec_check.specs.Fit.{twice_read_rule}
use Rattle.ec_check.specs.Line.{controllers_by}
use Rattle.ec_check.proofs.OneSideLemmas.{HasNone-read_on_one_side}
use Rattle.ec_check.proofs.LineLemmas.{length-controllers_by}
use Rattle.ec_check.proofs.SearchLemmas.{IsFirstOf-shorter, HasNone-all}
use Rattle.ec_check.proofs.ReadLemmas.{read_go_on}
use Rattle.ec_check.proofs.twice_read.bits_read_twice.Goals as goal

pub returns-then-reads_on_one_side : goal.returns-then-reads_on_one_side
returns-then-reads_on_one_side g c =
    HasNone-read_on_one_side (controllers_by g.S.Mapped.controller c.args.line.now)
    (c.reads_on_one_side.ensures.0 c.if-reads_on_one_side.true)

pub loop-slave-preserved : goal.loop-slave-preserved
loop-slave-preserved g c = below_more _ _ c.loop-slave.invariant c.in_ok-read_twice_by.ensures

pub returns-in_err-read_twice_by : goal.returns-in_err-read_twice_by
returns-in_err-read_twice_by g c =
    let p = err_from_is_err_and c.from_residual.result c.from_residual.ensures.1 in
    rw (p.1, p.2)
    (IsFirstOf-shorter (twice_read_rule ∷ [])
    (controllers_by g.S.Mapped.controller c.args.line.now) c.loop-slave.slave _
    c.loop-slave.invariant c.in_err-read_twice_by.ensures)

pub returns : goal.returns
returns g c =
    let line = controllers_by g.S.Mapped.controller c.args.line.now in
    HasNone-all (twice_read_rule ∷ []) line c.loop-slave.slave c.loop-slave.invariant
    (read_go_on line c.loop-slave.slave (omega (arith, length-controllers_by g.S.Mapped.controller c.args.line.now)))
