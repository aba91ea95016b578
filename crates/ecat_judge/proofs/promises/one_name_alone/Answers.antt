use Rattle.ecat_judge.specs.Answer.{is_told, named}
use Rattle.ecat_judge.proofs.AnswerLemmas.{alone_without, one_alone, one_counted}
use Rattle.ecat_judge.proofs.promises.one_name_alone.Goals as goal

pub returns-clause-counted : goal.returns-clause-counted
returns-clause-counted c = λ e candidates name one. one_counted (is_told e) name (named candidates) one

pub returns-clause-only : goal.returns-clause-only
returns-clause-only c = one_alone

pub returns-clause-is : goal.returns-clause-is
returns-clause-is c = alone_without
