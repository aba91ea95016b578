-- An error that an application finds is a command.
use Rattle.std.proofs.Common.{rules}
use Rattle.ecat_serve.specs.Commands.{Error, Nothing, Status}
use Rattle.ecat_serve.proofs.served.Served.set_error.Goals as goal

pub returns-clause-commanded : goal.returns-clause-commanded
returns-clause-commanded c = (Status c.args.place (Error c.args.code), search rules)

pub returns-in_err-check_slave-clause-commanded : goal.returns-in_err-check_slave-clause-commanded
returns-in_err-check_slave-clause-commanded c = (Nothing, search rules)
