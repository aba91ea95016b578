-- A line that is too long commands nothing, and any other what its answer says.
use Rattle.std.proofs.Common.{rules}
use Rattle.ecat_serve.specs.Commands.{Nothing}
use Rattle.ecat_service.proofs.commands.CommandsDesk.take.Goals as goal
use Rattle.ecat_service.proofs.commands.CommandsDesk.take.Goals.{in-None, in-Some}

pub returns-in-Ok : goal.returns-in-Ok
returns-in-Ok g c = elim c.match-line.branch [ in-None w ↦ (Nothing, search rules) | in-Some w ↦ search rules ]

pub returns-in-Err : goal.returns-in-Err
returns-in-Err g c = elim c.match-line.branch [ in-None w ↦ (Nothing, search rules) | in-Some w ↦ search rules ]
