use Rattle.ec_master.proofs.TwoRunsLemmas as lemmas
use Rattle.ec_master.proofs.promises.two_orders.Goals as goal

pub returns-clause-any_order : goal.returns-clause-any_order
returns-clause-any_order c = lemmas.two_orders_of_one

pub returns-clause-by_stations : goal.returns-clause-by_stations
returns-clause-by_stations c = lemmas.two_orders
