use Rattle.ec_master.proofs.ByteLemmas as lemmas
use Rattle.ec_master.proofs.promises.answers_are_bytes.Goals as goal

pub returns : goal.returns
returns c = lemmas.answers_are_bytes
