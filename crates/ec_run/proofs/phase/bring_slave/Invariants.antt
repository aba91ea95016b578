use Rattle.std.proofs.Common.{◌≤◌, drop}
use Rattle.ec_run.proofs.StepLemmas.{DoesOn}
use Rattle.ec_run.proofs.phase.bring_slave.Given as goal

abbrev pub invariant-loop-step : goal.invariant-loop-step
invariant-loop-step g l = record {
  counted : g.P.Ports.failed l.initial.ports ≤ g.P.Ports.failed l.ports;
  does_on : DoesOn g.P.Ports.trips l.initial.ports l.ports l.place l.wanted l.steps
      (drop l.step-index l.steps);
}
