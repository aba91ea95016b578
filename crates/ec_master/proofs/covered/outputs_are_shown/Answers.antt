use Rattle.ec_master.proofs.CoveredLemmas as lemmas
use Rattle.ec_master.proofs.covered.outputs_are_shown.Goals as goal

pub returns : goal.returns
returns c = lemmas.outputs_are_shown
