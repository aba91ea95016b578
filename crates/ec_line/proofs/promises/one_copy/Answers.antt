use Rattle.ec_line.proofs.Laws.{copy_answered, copy_left}
use Rattle.ec_line.proofs.promises.one_copy.Goals as goal

pub returns-clause-answered : goal.returns-clause-answered
returns-clause-answered c = copy_answered

pub returns-clause-left : goal.returns-clause-left
returns-clause-left c = copy_left
