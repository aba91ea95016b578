use Rattle.std.proofs.Common.{arith, sym, subst, below_more}
use Rattle.std.proofs.lemmas.List.Elements.{All-from_get_or, recursion_from_All}
use Rattle.ec_esc.specs.State.{IsController}
use Rattle.ec_check.specs.Line.{controllers_by, no_controller}
use Rattle.ec_check.proofs.LineLemmas.{controller_of-controllers_by, length-controllers_by}
use Rattle.ec_check.proofs.checker.are_controllers.Goals as goal

pub loop-slave-init : goal.loop-slave-init
loop-slave-init g c = λ i inside. absurd (omega (arith, inside))

pub loop-slave-preserved : goal.loop-slave-preserved
loop-slave-preserved g c =
    below_more _ _ c.loop-slave.invariant
    (subst IsController
    (sym
    (controller_of-controllers_by g.S.Mapped.controller c.args.line.now c.loop-slave.slave _
    c.loop-slave-test.true c.index-line-slave.is))
    c.station-station.ensures.controller)

pub returns : goal.returns
returns g c =
    recursion_from_All IsController (controllers_by g.S.Mapped.controller c.args.line.now)
    (All-from_get_or IsController (controllers_by g.S.Mapped.controller c.args.line.now) no_controller
    (λ i inside. c.loop-slave.invariant i
    (omega (arith, inside, c.loop-slave-test.false, length-controllers_by g.S.Mapped.controller c.args.line.now))))
