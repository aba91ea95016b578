use Rattle.ec_over_ring.proofs.Laws.{state_told, state_entered, state_ring}
use Rattle.ec_over_ring.proofs.promises.states_over_ring.Goals as goal

pub returns-clause-result : goal.returns-clause-result
returns-clause-result c = state_told

pub returns-clause-entered : goal.returns-clause-entered
returns-clause-entered c = state_entered

pub returns-clause-ring : goal.returns-clause-ring
returns-clause-ring c = state_ring
