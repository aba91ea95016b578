use Rattle.ecat_told.proofs.HeardLemmas.{states_heard}
use Rattle.ecat_told.proofs.promises.one_state_heard.Goals as goal

pub returns : goal.returns
returns c = states_heard
