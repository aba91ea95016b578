use Rattle.std.proofs.Common.{◌≤◌, ◌-◌, Err, replicate}
use Rattle.ec_services.specs.Acknowledgement.{error_question}
use Rattle.ec_services.specs.declared.fault.MasterFault.TheVariants.{NoAnswer}
use Rattle.ec_services.proofs.TalkLemmas.{GoesOn}
use Rattle.ec_services.proofs.acknowledgement.await_no_error.Given as goal

abbrev pub invariant-loop-read : goal.invariant-loop-read
invariant-loop-read g l = record {
  counted : g.P.Ports.failed l.initial.ports ≤ g.P.Ports.failed l.ports;
  goes_on : GoesOn g.P.Ports.trips l.initial.ports l.ports (replicate l.limit (error_question l.station))
      (replicate (l.limit - l._read) (error_question l.station)) (Err NoAnswer);
}
