use Rattle.std.proofs.Common.{◌≡◌, ◌-◌}
use Rattle.ecat_master.specs.declared.startup.TheConstants.{MORE_CABLE_LOOKS}
use Rattle.ecat_master.proofs.CourseLemmas.{LooksOn}
use Rattle.ecat_master.proofs.startup.look_surely.Given as goal

abbrev pub invariant-loop-look : goal.invariant-loop-look
invariant-loop-look g l =
    LooksOn g.P.HeardPorts.trips l.initial.ports.ports l.ports.ports l.slaves MORE_CABLE_LOOKS
    (MORE_CABLE_LOOKS - l._look)
    × (l.ports.tally ≡ l.initial.ports.tally)
