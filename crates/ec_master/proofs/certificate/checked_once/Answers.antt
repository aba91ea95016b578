use Rattle.ec_master.proofs.AgainLemmas as lemmas
use Rattle.ec_master.proofs.certificate.checked_once.Goals as goal

pub returns-clause-again : goal.returns-clause-again
returns-clause-again c = lemmas.again

pub returns-clause-still_expected : goal.returns-clause-still_expected
returns-clause-still_expected c = lemmas.still_expected
