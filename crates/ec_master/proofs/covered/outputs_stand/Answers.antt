use Rattle.ec_master.proofs.CoveredLemmas as lemmas
use Rattle.ec_master.proofs.covered.outputs_stand.Goals as goal

pub returns : goal.returns
returns c = lemmas.outputs_stand
