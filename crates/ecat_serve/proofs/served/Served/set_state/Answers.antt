-- A state into which a slave is put is a command.
use Rattle.std.proofs.Common.{rules}
use Rattle.ecat_serve.specs.Commands.{Nothing, State, Status}
use Rattle.ecat_serve.proofs.served.Served.set_state.Goals as goal

pub returns-clause-commanded : goal.returns-clause-commanded
returns-clause-commanded c = (Status c.args.place (State c.args.state), search rules)

pub returns-in_err-check_slave-clause-commanded : goal.returns-in_err-check_slave-clause-commanded
returns-in_err-check_slave-clause-commanded c = (Nothing, search rules)
