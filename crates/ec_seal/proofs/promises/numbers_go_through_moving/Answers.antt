use Rattle.ec_seal.proofs.MovingLemmas.{moving_a, moving_b}
use Rattle.ec_seal.proofs.promises.numbers_go_through_moving.Goals as goal

pub returns-clause-a : goal.returns-clause-a
returns-clause-a c = moving_a

pub returns-clause-b : goal.returns-clause-b
returns-clause-b c = moving_b
