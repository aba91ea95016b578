use Rattle.ec_master.proofs.RoundLemmas as lemmas
use Rattle.ec_master.proofs.certificate.of_round.Goals as goal

pub returns : goal.returns
returns c = lemmas.of_round
