-- Who passes over each line commands nothing.
use Rattle.std.proofs.Common.{rules}
use Rattle.ecat_serve.specs.Commands.{Nothing}
use Rattle.ecat_service.proofs.serving.NobodyDesk.take.Goals as goal

pub returns : goal.returns
returns c = (Nothing, search rules)
