use Rattle.ec_line.proofs.Laws.{own_a, own_b, moved_a, moved_b}
use Rattle.ec_line.proofs.promises.own_copies.Goals as goal

pub returns-clause-a : goal.returns-clause-a
returns-clause-a c = own_a

pub returns-clause-b : goal.returns-clause-b
returns-clause-b c = own_b

pub returns-clause-moved_a : goal.returns-clause-moved_a
returns-clause-moved_a c = moved_a

pub returns-clause-moved_b : goal.returns-clause-moved_b
returns-clause-moved_b c = moved_b
