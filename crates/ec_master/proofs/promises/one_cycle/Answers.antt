use Rattle.ec_master.proofs.TwoRunsLemmas as lemmas
use Rattle.ec_master.proofs.promises.one_cycle.Goals as goal

pub returns : goal.returns
returns c = lemmas.one_cycle
