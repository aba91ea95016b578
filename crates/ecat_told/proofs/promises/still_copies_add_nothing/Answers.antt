use Rattle.ecat_told.proofs.JoinLemmas.{joined_sent, sent_joined}
use Rattle.ecat_told.proofs.promises.still_copies_add_nothing.Goals as goal

pub returns-clause-last : goal.returns-clause-last
returns-clause-last c = joined_sent

pub returns-clause-first : goal.returns-clause-first
returns-clause-first c = sent_joined
