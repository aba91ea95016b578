use Rattle.std.proofs.Common.{ℕ, ◌≢◌, ◌<◌}
use Rattle.ec_check.specs.Line.{controllers_by, station_of}
use Rattle.ec_map.proofs.place.first_of_station.Given as goal

abbrev pub invariant-loop-slave : goal.invariant-loop-slave
invariant-loop-slave g l = (k : ℕ) → k < l.slave → station_of (controllers_by g.S.Mapped.controller l.line) k ≢ l.station
