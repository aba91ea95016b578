use Rattle.ec_master.proofs.ShownLineLemmas as lemmas
use Rattle.ec_master.proofs.covered.covered_outputs.Goals as goal

pub returns : goal.returns
returns c = lemmas.covered_outputs c.fit_line.ensures.placed
