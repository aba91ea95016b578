use Rattle.ec_master.proofs.AnyOrderLemmas as lemmas
use Rattle.ec_master.proofs.promises.accepted_in_any_order.Goals as goal

pub returns-clause-accepted : goal.returns-clause-accepted
returns-clause-accepted c = lemmas.accepted_in_any_order

pub returns-clause-stations : goal.returns-clause-stations
returns-clause-stations c = lemmas.stations_in_any_order
