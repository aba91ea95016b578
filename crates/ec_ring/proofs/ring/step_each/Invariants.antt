-- Those that have not taken their step yet are to take it.
use Rattle.std.proofs.Common.{◌≡◌, map}
use Rattle.ec_app.specs.Slave.{step}
use Rattle.ec_ring.proofs.MapLemmas.{map_from}
use Rattle.ec_ring.proofs.ring.step_each.Given as goal

abbrev pub invariant-loop-slave : goal.invariant-loop-slave
invariant-loop-slave l = map_from step l.slave-index l.slaves ≡ map step l.initial.slaves
