use Rattle.ecat_served.proofs.CycleLemmas.{cycle_says, one_history, plain_cycle}
use Rattle.ecat_served.proofs.promises.a_cycle_on_a_served_line.Goals as goal

pub returns-clause-history : goal.returns-clause-history
returns-clause-history c = one_history

pub returns-clause-moving : goal.returns-clause-moving
returns-clause-moving c = plain_cycle

pub returns-clause-says : goal.returns-clause-says
returns-clause-says c = cycle_says
