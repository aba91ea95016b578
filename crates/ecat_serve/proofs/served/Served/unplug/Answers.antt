-- An end that is unplugged is a command.
use Rattle.std.proofs.Common.{rules}
use Rattle.ec_ring.specs.declared.port.Port.TheVariants.{A, B}
use Rattle.ecat_serve.specs.Commands.{Unplug}
use Rattle.ecat_serve.proofs.served.Served.unplug.Goals as goal

pub returns-in-A-clause-commanded : goal.returns-in-A-clause-commanded
returns-in-A-clause-commanded c = (Unplug A, search rules)

pub returns-in-B-clause-commanded : goal.returns-in-B-clause-commanded
returns-in-B-clause-commanded c = (Unplug B, search rules)
