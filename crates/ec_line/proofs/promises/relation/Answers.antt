use Rattle.ec_line.proofs.Laws.{nobody_answers, answered_then, answered_joined, same_members}
use Rattle.ec_line.proofs.promises.relation.Goals as goal

pub returns-clause-nobody : goal.returns-clause-nobody
returns-clause-nobody c = nobody_answers

pub returns-clause-one_after_the_other : goal.returns-clause-one_after_the_other
returns-clause-one_after_the_other c = answered_then

pub returns-clause-joined : goal.returns-clause-joined
returns-clause-joined c = answered_joined

pub returns-clause-same_members : goal.returns-clause-same_members
returns-clause-same_members c = same_members
