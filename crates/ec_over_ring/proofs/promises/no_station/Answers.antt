use Rattle.ec_over_ring.proofs.Laws.{unanswered, unanswered_ring}
use Rattle.ec_over_ring.proofs.promises.no_station.Goals as goal

pub returns-clause-answer : goal.returns-clause-answer
returns-clause-answer c = unanswered

pub returns-clause-ring : goal.returns-clause-ring
returns-clause-ring c = unanswered_ring
