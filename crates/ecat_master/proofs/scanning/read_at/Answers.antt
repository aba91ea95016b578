use Rattle.std.proofs.Common.{sym, ap, subst, ◌∙◌, Result}
use Rattle.ec_run.specs.Ask.{IsPut}
use Rattle.ec_services.specs.declared.fault.MasterFault.{MasterFault}
use Rattle.ec_wire.specs.Datagram.{DatagramRecord}
use Rattle.ecat_master.specs.Scan.{unless_failed}
use Rattle.ecat_master.proofs.scanning.read_at.Goals as goal

pub returns-in-Ok-clause-read : goal.returns-in-Ok-clause-read
returns-in-Ok-clause-read g c = record {
  joined = c.put-answer.result;
  puts = subst (λ (d : DatagramRecord). IsPut g.P.Ports.trips c.args.ports.now d c.put-answer.result
      c.put-answer.new.ports) c.register_read-sent.ensures.read c.put-answer.ensures.put;
  tells = ap (λ (t : Result (Unit {0}) MasterFault). unless_failed t c.put-answer.result)
      (sym c.in-Ok.is ∙ c.one_counted.ensures);
}

pub returns-in-Err-clause-read : goal.returns-in-Err-clause-read
returns-in-Err-clause-read g c = record {
  joined = c.put-answer.result;
  puts = subst (λ (d : DatagramRecord). IsPut g.P.Ports.trips c.args.ports.now d c.put-answer.result
      c.put-answer.new.ports) c.register_read-sent.ensures.read c.put-answer.ensures.put;
  tells = ap (λ (t : Result (Unit {0}) MasterFault). unless_failed t c.put-answer.result)
      (sym c.in-Err.is ∙ c.one_counted.ensures);
}
