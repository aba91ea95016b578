use Rattle.std.specs.Prelude.{false}
use Rattle.ec_number.proofs.NumberLemmas.{opened-with_number, with_number-bears}
use Rattle.ec_number.proofs.promises.numbers_come_off.Goals as goal

pub returns-clause-off : goal.returns-clause-off
returns-clause-off c = opened-with_number false

pub returns-clause-bears : goal.returns-clause-bears
returns-clause-bears c = with_number-bears false
