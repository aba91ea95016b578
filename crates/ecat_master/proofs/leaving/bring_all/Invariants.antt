use Rattle.ecat_master.specs.Leaving.{NoneBrings}
use Rattle.ecat_master.proofs.leaving.bring_all.Given as goal

abbrev pub invariant-loop-round : goal.invariant-loop-round
invariant-loop-round g l =
    NoneBrings g.P.HeardPorts.trips l.state l.slaves l.round l.initial.ports l.ports
