use Rattle.ec_master.proofs.BetweenLemmas as lemmas
use Rattle.ec_master.proofs.between.accepted_by_mapping.Goals as goal

pub returns-clause-accepted : goal.returns-clause-accepted
returns-clause-accepted c = lemmas.accepted_by_mapping

pub returns-clause-expected : goal.returns-clause-expected
returns-clause-expected c = lemmas.expected_by
