-- A line that is no command commands nothing.
use Rattle.std.proofs.Common.{rules}
use Rattle.ecat_serve.specs.Commands.{Nothing}
use Rattle.ecat_service.proofs.commands.answer.Goals as goal

pub returns-in-Err : goal.returns-in-Err
returns-in-Err g c = (Nothing, search rules)
