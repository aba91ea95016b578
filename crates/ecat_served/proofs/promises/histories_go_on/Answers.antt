use Rattle.ecat_served.proofs.ActingLemmas.{moved_behind}
use Rattle.ecat_served.proofs.HistoryLemmas.{cut_history, joined_histories, unmoved_quiet}
use Rattle.ecat_served.proofs.QuietLemmas.{listening_quiet}
use Rattle.ecat_served.proofs.promises.histories_go_on.Goals as goal

pub returns-clause-joined : goal.returns-clause-joined
returns-clause-joined c = joined_histories

pub returns-clause-cut : goal.returns-clause-cut
returns-clause-cut c = cut_history

pub returns-clause-unmoved : goal.returns-clause-unmoved
returns-clause-unmoved c = unmoved_quiet

pub returns-clause-listening : goal.returns-clause-listening
returns-clause-listening c = listening_quiet

pub returns-clause-acts : goal.returns-clause-acts
returns-clause-acts c =
    moved_behind c.moves_between_passages.ensures.step c.moves_between_passages.ensures.acting
    c.serving_moves_slaves.ensures c.acting_leaves.ensures.size c.behind_leaves.ensures.size
