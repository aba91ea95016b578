use Rattle.ec_diag.proofs.WalkLemmas.{walk_heard_a, walk_heard_b}
use Rattle.ec_diag.proofs.promises.walks_are_heard.Goals as goal

pub returns-clause-a : goal.returns-clause-a
returns-clause-a c = walk_heard_a

pub returns-clause-b : goal.returns-clause-b
returns-clause-b c = walk_heard_b
