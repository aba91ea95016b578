-- Power that is switched on is a command, and where it is refused nothing is.
use Rattle.std.proofs.Common.{rules, true}
use Rattle.ecat_serve.specs.Commands.{Nothing, Power}
use Rattle.ecat_serve.proofs.served.Served.power_on.Goals as goal

pub returns-in_err-check_slave-clause-commanded : goal.returns-in_err-check_slave-clause-commanded
returns-in_err-check_slave-clause-commanded c = (Nothing, search rules)

pub returns-in_default-clause-commanded : goal.returns-in_default-clause-commanded
returns-in_default-clause-commanded c = (Nothing, search rules)

pub returns-clause-ok : goal.returns-clause-ok
returns-clause-ok c = record {
  slave = c.slave.result.now;
  controller = c.in-Ok.controller;
  begun = c.begin_slave.new.self;
  there = search rules;
  begins = search rules;
  changes = search rules;
  links = search rules;
}

pub returns-clause-commanded : goal.returns-clause-commanded
returns-clause-commanded c = (Power c.args.place true, returns-clause-ok c)
