use Rattle.std.proofs.Common.{◌≡◌, ◌++◌, map, take, drop}
use Rattle.ecat_told.specs.Slave.{told_run}
use Rattle.ecat_told.proofs.known.tell_all.Given as goal

abbrev pub invariant-loop-slave : goal.invariant-loop-slave
invariant-loop-slave l =
    l.slaves ≡ map (told_run l.how l.register l.values) (take l.slave-index l.fn.slaves)
    ++ drop l.slave-index l.fn.slaves
