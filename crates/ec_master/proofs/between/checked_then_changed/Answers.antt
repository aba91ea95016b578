use Rattle.ec_master.proofs.BetweenLemmas as lemmas
use Rattle.ec_master.proofs.between.checked_then_changed.Goals as goal

pub returns-clause-controller : goal.returns-clause-controller
returns-clause-controller c = lemmas.changed_accepted

pub returns-clause-expected : goal.returns-clause-expected
returns-clause-expected c = lemmas.changed_expected

pub returns-clause-inputs : goal.returns-clause-inputs
returns-clause-inputs c = lemmas.inputs_accepted

pub returns-clause-expected_with_inputs : goal.returns-clause-expected_with_inputs
returns-clause-expected_with_inputs c = lemmas.inputs_expected

pub returns-clause-links : goal.returns-clause-links
returns-clause-links c = lemmas.links_accepted
