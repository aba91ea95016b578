-- Bytes that are loaded are a command.
use Rattle.std.proofs.Common.{rules}
use Rattle.ecat_serve.specs.Commands.{Load, Nothing}
use Rattle.ecat_serve.proofs.served.Served.load.Goals as goal

pub returns-clause-commanded : goal.returns-clause-commanded
returns-clause-commanded c = (
  Load c.args.place c.args.address c.args.bytes.now,
  record {
    from = search rules;
    to = search rules;
    changes = search rules;
  },
)

pub returns-in_err-check_slave-clause-commanded : goal.returns-in_err-check_slave-clause-commanded
returns-in_err-check_slave-clause-commanded c = (Nothing, search rules)

pub returns-in_err-check_bytes-clause-commanded : goal.returns-in_err-check_bytes-clause-commanded
returns-in_err-check_bytes-clause-commanded c = (Nothing, search rules)
