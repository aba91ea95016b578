-- What is refused, and what only disturbs or ends, commands nothing.
use Rattle.std.proofs.Common.{rules}
use Rattle.ecat_serve.specs.Commands.{Nothing}
use Rattle.ecat_socket_tests.proofs.serve.commands.HandDesk.take.Goals as goal

pub returns-in-Some-eq50 : goal.returns-in-Some-eq50
returns-in-Some-eq50 c = (Nothing, search rules)

pub returns-in-Some : goal.returns-in-Some
returns-in-Some c = (Nothing, search rules)

pub returns-in-Some-2 : goal.returns-in-Some-2
returns-in-Some-2 c = (Nothing, search rules)

pub returns-in-Some-3 : goal.returns-in-Some-3
returns-in-Some-3 c = (Nothing, search rules)

pub returns-in-None : goal.returns-in-None
returns-in-None c = (Nothing, search rules)
