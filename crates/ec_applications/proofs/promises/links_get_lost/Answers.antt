use Rattle.ec_applications.proofs.LinkLemmas.{lost_before, lost_behind}
use Rattle.ec_applications.proofs.promises.links_get_lost.Goals as goal

pub returns-clause-port_0 : goal.returns-clause-port_0
returns-clause-port_0 c = lost_before

pub returns-clause-port_1 : goal.returns-clause-port_1
returns-clause-port_1 c = lost_behind
