use Rattle.std.proofs.Common.{[], ◌∷◌}
use Rattle.ec_check.specs.Fit.{twin_station_rule}
use Rattle.ec_check.specs.Line.{controllers_by}
use Rattle.ec_check.specs.Search.{HasNoneBelow}
use Rattle.ec_check.proofs.stations.twins_of.Given as goal

abbrev pub invariant-loop-later_slave : goal.invariant-loop-later_slave
invariant-loop-later_slave g l =
    HasNoneBelow (twin_station_rule ∷ l.slave ∷ [])
    (controllers_by g.S.Mapped.controller l.line) l.later_slave
