use Rattle.ec_over_ring.proofs.Laws.{acknowledged_told, acknowledged_entered, acknowledged_left}
use Rattle.ec_over_ring.proofs.promises.acknowledged_over_ring.Goals as goal

pub returns-clause-result : goal.returns-clause-result
returns-clause-result c = acknowledged_told

pub returns-clause-entered : goal.returns-clause-entered
returns-clause-entered c = acknowledged_entered

pub returns-clause-ring : goal.returns-clause-ring
returns-clause-ring c = acknowledged_left
