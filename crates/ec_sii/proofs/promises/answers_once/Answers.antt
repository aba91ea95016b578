use Rattle.ec_sii.proofs.AnswerLemmas.{answered_once, read_words, read_command}
use Rattle.ec_sii.proofs.promises.answers_once.Goals as goal

pub returns-clause-words : goal.returns-clause-words
returns-clause-words c = read_words

pub returns-clause-command : goal.returns-clause-command
returns-clause-command c = read_command

pub returns-clause-once : goal.returns-clause-once
returns-clause-once c = answered_once
