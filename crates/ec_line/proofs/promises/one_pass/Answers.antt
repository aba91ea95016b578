use Rattle.ec_line.proofs.Laws.{step, after_pass}
use Rattle.ec_line.proofs.promises.one_pass.Goals as goal

pub returns-clause-answered : goal.returns-clause-answered
returns-clause-answered c = step

pub returns-clause-left : goal.returns-clause-left
returns-clause-left c = after_pass
