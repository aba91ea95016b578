use Rattle.std.proofs.Common.{◌≡◌, ◌++◌, map, take, drop}
use Rattle.ecat_told.specs.Known.{at_station}
use Rattle.ecat_told.proofs.known.tell_station.Given as goal

abbrev pub invariant-loop-slave : goal.invariant-loop-slave
invariant-loop-slave l =
    l.slaves ≡ map (at_station l.how l.holders l.station l.register l.values) (take l.slave-index l.fn.slaves)
    ++ drop l.slave-index l.fn.slaves
