use Rattle.std.proofs.Common.{◌<◌, ◌-◌, length}
use Rattle.ecat_master.specs.declared.scanning.TheConstants.{ASKS, COUNTS}
use Rattle.ecat_master.proofs.ScanLemmas.{AsksOn}
use Rattle.ecat_master.proofs.scanning.count_often.Given as goal

abbrev pub invariant-loop-ask : goal.invariant-loop-ask
invariant-loop-ask g l =
    AsksOn g.P.HeardPorts.trips l.initial.ports l.ports ASKS (ASKS - l._ask) l.counted
    × (length l.counted < COUNTS)
