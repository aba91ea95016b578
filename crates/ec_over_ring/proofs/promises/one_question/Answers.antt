use Rattle.ec_over_ring.proofs.Laws.{one_answer, one_ring}
use Rattle.ec_over_ring.proofs.promises.one_question.Goals as goal

pub returns-clause-answer : goal.returns-clause-answer
returns-clause-answer c = one_answer

pub returns-clause-ring : goal.returns-clause-ring
returns-clause-ring c = one_ring
