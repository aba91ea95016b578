-- Power that is switched off is a command, and where it is refused nothing is.
use Rattle.std.proofs.Common.{rules, false}
use Rattle.ecat_serve.specs.Commands.{Nothing, Power}
use Rattle.ecat_serve.proofs.served.Served.power_off.Goals as goal

pub returns-in_err-check_slave-clause-commanded : goal.returns-in_err-check_slave-clause-commanded
returns-in_err-check_slave-clause-commanded c = (Nothing, search rules)

pub returns-clause-commanded : goal.returns-clause-commanded
returns-clause-commanded c = (Power c.args.place false, search rules)
