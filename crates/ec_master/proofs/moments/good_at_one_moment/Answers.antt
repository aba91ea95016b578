use Rattle.ec_master.proofs.MomentAgainLemmas as again
use Rattle.ec_master.proofs.MomentCycleLemmas as lemmas
use Rattle.ec_master.proofs.moments.good_at_one_moment.Goals as goal

pub returns-clause-verdict : goal.returns-clause-verdict
returns-clause-verdict c = lemmas.moving_verdict

pub returns-clause-one_link_down : goal.returns-clause-one_link_down
returns-clause-one_link_down c = lemmas.moving_one_down

pub returns-clause-image : goal.returns-clause-image
returns-clause-image c = lemmas.moving_image

pub returns-clause-outputs : goal.returns-clause-outputs
returns-clause-outputs c = lemmas.outputs_last

pub returns-clause-shown : goal.returns-clause-shown
returns-clause-shown c = lemmas.outputs_shown

pub returns-clause-again : goal.returns-clause-again
returns-clause-again c = again.moving_again

pub returns-clause-still_expected : goal.returns-clause-still_expected
returns-clause-still_expected c = again.moving_expected

pub returns-clause-still : goal.returns-clause-still
returns-clause-still c = lemmas.still_cycle

pub returns-clause-over_ports : goal.returns-clause-over_ports
returns-clause-over_ports c = lemmas.moving_suffices
