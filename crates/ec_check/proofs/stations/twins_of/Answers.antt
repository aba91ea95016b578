use Rattle.std.proofs.Common.{◌<◌, [], ◌∷◌, below_more, arith}
use Rattle.std.proofs.lemmas.Result.{err_from_is_err_and}
use Rattle.ec_check.specs.Fit.{twin_station_rule}
use Rattle.ec_check.specs.Line.{controllers_by}
use Rattle.ec_check.proofs.LineLemmas.{length-controllers_by}
use Rattle.ec_check.proofs.SearchLemmas.{IsFirstOf-shorter, HasNone-all}
use Rattle.ec_check.proofs.StationLemmas.{twins_of_go_on, HasNone-twins}
use Rattle.ec_check.proofs.stations.twins_of.Goals as goal

pub loop-later_slave-init : goal.loop-later_slave-init
loop-later_slave-init g c = λ n below.
    HasNone-twins (controllers_by g.S.Mapped.controller c.args.line.now) c.args.slave n
    (λ twins. let order : c.args.slave < n = twins.order in absurd (omega arith))

pub loop-later_slave-preserved : goal.loop-later_slave-preserved
loop-later_slave-preserved g c = below_more _ _ c.loop-later_slave.invariant c.in_ok-compare_stations.ensures

pub returns-in_err-compare_stations : goal.returns-in_err-compare_stations
returns-in_err-compare_stations g c =
    let p = err_from_is_err_and c.from_residual.result c.from_residual.ensures.1 in
    rw (p.1, p.2)
    (IsFirstOf-shorter (twin_station_rule ∷ c.args.slave ∷ [])
    (controllers_by g.S.Mapped.controller c.args.line.now) c.loop-later_slave.later_slave _
    c.loop-later_slave.invariant c.in_err-compare_stations.ensures)

pub returns : goal.returns
returns g c =
    let line = controllers_by g.S.Mapped.controller c.args.line.now in
    HasNone-all (twin_station_rule ∷ c.args.slave ∷ [])
    line c.loop-later_slave.later_slave c.loop-later_slave.invariant
    (twins_of_go_on line c.args.slave c.loop-later_slave.later_slave
    (omega (arith, length-controllers_by g.S.Mapped.controller c.args.line.now)))
