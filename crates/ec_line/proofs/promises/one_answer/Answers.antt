use Rattle.ec_line.proofs.Laws.{one_answer}
use Rattle.ec_line.proofs.promises.one_answer.Goals as goal

pub returns : goal.returns
returns c = one_answer
