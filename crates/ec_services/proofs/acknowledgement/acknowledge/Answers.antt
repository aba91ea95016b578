use Rattle.std.proofs.Common.{Ok, Err, replicate}
use Rattle.std.proofs.lemmas.Result.{err_from_is_err_and}
use Rattle.ec_regs.specs.declared.al.AlState.{AlState}
use Rattle.ec_services.specs.Ask.{write}
use Rattle.ec_services.specs.States.{control_write}
use Rattle.ec_services.specs.Acknowledgement.{error_question}
use Rattle.ec_services.specs.declared.fault.MasterFault.TheVariants.{NoAnswer}
use Rattle.ec_services.proofs.TalkLemmas.{talks_next, talks_fault, write_in}
use Rattle.ec_services.proofs.acknowledgement.acknowledge.Goals as goal

pub returns-in_err-write_control-clause-service : goal.returns-in_err-write_control-clause-service
returns-in_err-write_control-clause-service g c =
    let sent = control_write c.args.station c.in_ok-status.status.state in
    let p = err_from_is_err_and c.from_residual-in_err-write_control.result
    c.from_residual-in_err-write_control.ensures.1 in
    rw (p.1, p.2) (record {
      status = Ok c.in_ok-status.status;
      between = c.read_al.new.ports;
      reading = c.in_ok-status.ensures.told;
      acknowledging = talks_fault g.P.Ports.trips c.read_al.new.ports c.write_control.new.ports (write sent)
          (replicate c.args.limit (error_question c.args.station)) (Err NoAnswer)
          c.in_err-write_control.field-0.0
          (write_in {A = Unit {0}} {B = AlState} g.P.Ports.trips c.read_al.new.ports c.write_control.new.ports
          sent (Err c.in_err-write_control.field-0.0) c.in_err-write_control.ensures.asked);
    })

pub returns-clause-service : goal.returns-clause-service
returns-clause-service g c =
    let sent = control_write c.args.station c.in_ok-status.status.state in
    record {
      status = Ok c.in_ok-status.status;
      between = c.read_al.new.ports;
      reading = c.in_ok-status.ensures.told;
      acknowledging = talks_next g.P.Ports.trips c.read_al.new.ports c.write_control.new.ports
          c.await_no_error.new.ports (write sent)
          (replicate c.args.limit (error_question c.args.station)) (Err NoAnswer) c.await_no_error.result
          (write_in {A = Unit {0}} {B = AlState} g.P.Ports.trips c.read_al.new.ports c.write_control.new.ports
          sent (Ok tt) c.in_ok-write_control.ensures.asked)
          c.await_no_error.ensures.talk;
    }
