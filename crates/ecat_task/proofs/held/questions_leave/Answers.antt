use Rattle.ecat_task.proofs.HeldLemmas.{question_leaves}
use Rattle.ecat_task.proofs.held.questions_leave.Goals as goal

pub returns : goal.returns
returns c = question_leaves
