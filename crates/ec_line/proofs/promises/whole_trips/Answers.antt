use Rattle.ec_line.proofs.Laws.{whole_answered, whole_left}
use Rattle.ec_line.proofs.promises.whole_trips.Goals as goal

pub returns-clause-answered : goal.returns-clause-answered
returns-clause-answered c = whole_answered

pub returns-clause-left : goal.returns-clause-left
returns-clause-left c = whole_left
