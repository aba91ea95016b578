use Rattle.ec_master.proofs.OrderLemmas.{whole_cycle, reached_cycle, unreached_same, reached_all}
use Rattle.ec_master.proofs.SlaveLemmas.{stations_kept}
use Rattle.ec_master.proofs.promises.order_free.Goals as goal

pub returns-clause-whole : goal.returns-clause-whole
returns-clause-whole c = whole_cycle

pub returns-clause-reached : goal.returns-clause-reached
returns-clause-reached c = reached_cycle

pub returns-clause-unreached : goal.returns-clause-unreached
returns-clause-unreached c = unreached_same

pub returns-clause-one_down : goal.returns-clause-one_down
returns-clause-one_down c = reached_all

pub returns-clause-stations : goal.returns-clause-stations
returns-clause-stations c = stations_kept
