use Rattle.std.proofs.Common.{◌≤◌, ◌-◌}
use Rattle.ec_run.specs.declared.states.TheConstants.{LEAVE_ASKS}
use Rattle.ec_run.proofs.StatesLemmas.{LeavesOn}
use Rattle.ec_run.proofs.states.leave.Given as goal

abbrev pub invariant-loop-ask : goal.invariant-loop-ask
invariant-loop-ask g l = record {
  counted : g.P.Ports.failed l.initial.ports ≤ g.P.Ports.failed l.ports;
  leaves_on : LeavesOn g.P.Ports.trips l.initial.ports l.ports l.state l.slaves LEAVE_ASKS
      (LEAVE_ASKS - l._ask);
}
