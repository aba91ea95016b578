-- A link that is put is a command.
use Rattle.std.proofs.Common.{rules}
use Rattle.ecat_serve.specs.Commands.{Link, Nothing}
use Rattle.ecat_serve.proofs.served.Served.set_link.Goals as goal

pub returns-clause-commanded : goal.returns-clause-commanded
returns-clause-commanded c = (
  Link c.args.k c.args.up,
  record {
    on_line = search rules;
    at = search rules;
    others = search rules;
    stays = search rules;
  },
)

pub returns-then-slaves-k-clause-commanded : goal.returns-then-slaves-k-clause-commanded
returns-then-slaves-k-clause-commanded c = (Nothing, search rules)
