use Rattle.std.proofs.Common.{◌≤◌, ◌-◌}
use Rattle.ec_run.specs.declared.recovery.TheConstants.{MORE_LOOKS}
use Rattle.ec_run.proofs.RecoveryLemmas.{LooksOn}
use Rattle.ec_run.proofs.recovery.look_for.Given as goal

abbrev pub invariant-loop-look : goal.invariant-loop-look
invariant-loop-look g l = record {
  counted : g.P.Ports.failed l.initial.ports ≤ g.P.Ports.failed l.ports;
  looks_on : LooksOn g.P.Ports.trips l.initial.ports l.ports l.station MORE_LOOKS (MORE_LOOKS - l._look);
}
