-- What is refused, and what only asks, commands nothing.
use Rattle.std.proofs.Common.{rules}
use Rattle.ecat_serve.specs.Commands.{Nothing}
use Rattle.ecat_service.proofs.commands.change.Goals as goal

pub returns-in_err-place-in-Load-clause-done : goal.returns-in_err-place-in-Load-clause-done
returns-in_err-place-in-Load-clause-done c = (Nothing, search rules)

pub returns-in_err-place-in-State-clause-done : goal.returns-in_err-place-in-State-clause-done
returns-in_err-place-in-State-clause-done c = (Nothing, search rules)

pub returns-in_err-place-in-Error-clause-done : goal.returns-in_err-place-in-Error-clause-done
returns-in_err-place-in-Error-clause-done c = (Nothing, search rules)

pub returns-in_err-place-in-Power-clause-done : goal.returns-in_err-place-in-Power-clause-done
returns-in_err-place-in-Power-clause-done c = (Nothing, search rules)

pub returns-in-Nothing-clause-done : goal.returns-in-Nothing-clause-done
returns-in-Nothing-clause-done c = (Nothing, search rules)

pub returns-in-Nothing-2-clause-done : goal.returns-in-Nothing-2-clause-done
returns-in-Nothing-2-clause-done c = (Nothing, search rules)

pub returns-in-Nothing-3-clause-done : goal.returns-in-Nothing-3-clause-done
returns-in-Nothing-3-clause-done c = (Nothing, search rules)

pub returns-in-Nothing-4-clause-done : goal.returns-in-Nothing-4-clause-done
returns-in-Nothing-4-clause-done c = (Nothing, search rules)

pub returns-in-Nothing-5-clause-done : goal.returns-in-Nothing-5-clause-done
returns-in-Nothing-5-clause-done c = (Nothing, search rules)

pub returns-in-Nothing-6-clause-done : goal.returns-in-Nothing-6-clause-done
returns-in-Nothing-6-clause-done c = (Nothing, search rules)

pub returns-in-Nothing-7-clause-done : goal.returns-in-Nothing-7-clause-done
returns-in-Nothing-7-clause-done c = (Nothing, search rules)

pub returns-in-Nothing-8-clause-done : goal.returns-in-Nothing-8-clause-done
returns-in-Nothing-8-clause-done c = (Nothing, search rules)
