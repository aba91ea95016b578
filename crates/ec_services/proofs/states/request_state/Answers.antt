use Rattle.std.proofs.Common.{Err, replicate}
use Rattle.std.proofs.lemmas.Result.{err_from_is_err_and}
use Rattle.ec_services.specs.Ask.{write}
use Rattle.ec_services.specs.States.{control_write, status_question}
use Rattle.ec_services.specs.declared.fault.MasterFault.TheVariants.{NoAnswer}
use Rattle.ec_services.proofs.TalkLemmas.{talks_next, talks_fault}
use Rattle.ec_services.proofs.states.request_state.Goals as goal

pub returns-in_err-write_control-clause-service : goal.returns-in_err-write_control-clause-service
returns-in_err-write_control-clause-service g c =
    let p = err_from_is_err_and c.from_residual.result c.from_residual.ensures.1 in
    rw (p.1, p.2)
    (talks_fault g.P.Ports.trips c.args.ports.now c.write_control.new.ports (write
    (control_write c.args.station c.args.state))
    (replicate c.args.limit (status_question c.args.station c.args.state))
    (Err NoAnswer) c.in_err-write_control.field-0.0
    c.in_err-write_control.ensures.asked)

pub returns-clause-service : goal.returns-clause-service
returns-clause-service g c =
    talks_next g.P.Ports.trips c.args.ports.now c.write_control.new.ports c.await_state.new.ports
    (write (control_write c.args.station c.args.state))
    (replicate c.args.limit (status_question c.args.station c.args.state)) (Err NoAnswer) c.await_state.result
    c.in_ok-write_control.ensures.asked c.await_state.ensures.talk
