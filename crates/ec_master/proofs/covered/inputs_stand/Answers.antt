use Rattle.ec_master.proofs.CoveredLemmas as lemmas
use Rattle.ec_master.proofs.covered.inputs_stand.Goals as goal

pub returns : goal.returns
returns c = lemmas.inputs_stand
