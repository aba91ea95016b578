use Rattle.ecat_master.specs.Start.{EarlierCounts}
use Rattle.ecat_master.proofs.startup.count_until.Given as goal

abbrev pub invariant-loop-count : goal.invariant-loop-count
invariant-loop-count g l = EarlierCounts g.P.Ports.trips l._count l.initial.ports l.ports
