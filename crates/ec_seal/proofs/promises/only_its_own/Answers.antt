use Rattle.ec_seal.proofs.TakenLemmas.{own_a, own_b, brings_own, line_behind}
use Rattle.ec_seal.proofs.promises.only_its_own.Goals as goal

pub returns-clause-a : goal.returns-clause-a
returns-clause-a c = own_a

pub returns-clause-b : goal.returns-clause-b
returns-clause-b c = own_b

pub returns-clause-brings : goal.returns-clause-brings
returns-clause-brings c = brings_own

pub returns-clause-line : goal.returns-clause-line
returns-clause-line c = line_behind
