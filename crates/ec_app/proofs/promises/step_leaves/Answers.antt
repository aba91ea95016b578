use Rattle.ec_app.proofs.LeftLemmas as lemmas
use Rattle.ec_app.proofs.promises.step_leaves.Goals as goal

pub returns : goal.returns
returns c = lemmas.step_leaves
