use Rattle.ec_check.proofs.PlacesLemmas as lemmas
use Rattle.ec_check.proofs.facts.fit_in_any_order.Goals as goal

pub returns : goal.returns
returns c = lemmas.fit_in_any_order
