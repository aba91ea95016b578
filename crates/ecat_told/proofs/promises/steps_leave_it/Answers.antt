use Rattle.ecat_told.proofs.JourneyLemmas.{steps_keep}
use Rattle.ecat_told.proofs.promises.steps_leave_it.Goals as goal

pub returns : goal.returns
returns c = steps_keep
