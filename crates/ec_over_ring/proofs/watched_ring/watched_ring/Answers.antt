use Rattle.ec_over_ring.proofs.HeardLemmas as heard
use Rattle.ec_over_ring.proofs.watched_ring.watched_ring.Goals as goal

pub returns-clause-heard : goal.returns-clause-heard
returns-clause-heard c = heard.heard_is_ring

pub returns-clause-watched : goal.returns-clause-watched
returns-clause-watched c = heard.watched_ring
