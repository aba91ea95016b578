use Rattle.ec_seal.proofs.MovingLemmas.{taken_moving_a, taken_moving_b}
use Rattle.ec_seal.proofs.promises.only_its_own_moving.Goals as goal

pub returns-clause-a : goal.returns-clause-a
returns-clause-a c = taken_moving_a

pub returns-clause-b : goal.returns-clause-b
returns-clause-b c = taken_moving_b
