use Rattle.std.proofs.Common.{◌≤◌, ◌-◌, Err, replicate}
use Rattle.ec_services.specs.States.{status_question}
use Rattle.ec_services.specs.declared.fault.MasterFault.TheVariants.{NoAnswer}
use Rattle.ec_services.proofs.TalkLemmas.{GoesOn}
use Rattle.ec_services.proofs.states.await_state.Given as goal

abbrev pub invariant-loop-read : goal.invariant-loop-read
invariant-loop-read g l = record {
  counted : g.P.Ports.failed l.initial.ports ≤ g.P.Ports.failed l.ports;
  goes_on : GoesOn g.P.Ports.trips l.initial.ports l.ports (replicate l.limit
      (status_question l.station l.state))
      (replicate (l.limit - l._read) (status_question l.station l.state)) (Err NoAnswer);
}
