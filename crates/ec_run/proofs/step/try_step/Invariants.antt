use Rattle.std.proofs.Common.{◌≤◌, ◌-◌}
use Rattle.ec_run.specs.declared.step.TheConstants.{MORE_TRIES}
use Rattle.ec_run.proofs.StepLemmas.{TriesOn}
use Rattle.ec_run.proofs.step.try_step.Given as goal

abbrev pub invariant-loop-try : goal.invariant-loop-try
invariant-loop-try g l = record {
  counted : g.P.Ports.failed l.initial.ports ≤ g.P.Ports.failed l.ports;
  tries_on : TriesOn g.P.Ports.trips l.initial.ports l.ports l.place l.wanted l.step MORE_TRIES
      (MORE_TRIES - l._try);
}
