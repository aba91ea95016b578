use Rattle.ec_sii.proofs.ReadingLemmas.{category_read, category_words, end_read, image_read}
use Rattle.ec_sii.proofs.promises.made_is_read.Goals as goal

pub returns-clause-category : goal.returns-clause-category
returns-clause-category c = category_read

pub returns-clause-words : goal.returns-clause-words
returns-clause-words c = category_words

pub returns-clause-end : goal.returns-clause-end
returns-clause-end c = end_read

pub returns-clause-all : goal.returns-clause-all
returns-clause-all c = image_read
