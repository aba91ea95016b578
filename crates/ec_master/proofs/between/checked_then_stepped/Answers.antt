use Rattle.ec_master.proofs.BetweenLemmas as lemmas
use Rattle.ec_master.proofs.between.checked_then_stepped.Goals as goal

pub returns-clause-accepted : goal.returns-clause-accepted
returns-clause-accepted c = lemmas.stepped_accepted

pub returns-clause-expected : goal.returns-clause-expected
returns-clause-expected c = lemmas.stepped_expected
