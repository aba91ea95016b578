use Rattle.ec_number.proofs.UnderLemmas.{apart-number, under-bears, opened-own}
use Rattle.ec_number.proofs.promises.numbers_are_apart.Goals as goal

pub returns-clause-apart : goal.returns-clause-apart
returns-clause-apart c = apart-number

pub returns-clause-bears : goal.returns-clause-bears
returns-clause-bears c = under-bears

pub returns-clause-own : goal.returns-clause-own
returns-clause-own c = opened-own
