use Rattle.ec_line.proofs.Laws.{trips_answered, trips_left}
use Rattle.ec_line.proofs.promises.trips_core.Goals as goal

pub returns-clause-answered : goal.returns-clause-answered
returns-clause-answered c = trips_answered

pub returns-clause-left : goal.returns-clause-left
returns-clause-left c = trips_left
