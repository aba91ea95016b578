-- Copies that are to be lost are a command.
use Rattle.std.proofs.Common.{rules}
use Rattle.ecat_serve.specs.Commands.{Lose}
use Rattle.ecat_serve.proofs.served.Served.lose.Goals as goal

pub returns-clause-commanded : goal.returns-clause-commanded
returns-clause-commanded c = (Lose c.args.at c.args.count, search rules)
