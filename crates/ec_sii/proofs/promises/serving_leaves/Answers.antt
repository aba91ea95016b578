use Rattle.ec_sii.proofs.ServedLemmas.{served_shown, served_written, served_size, served_beside}
use Rattle.ec_sii.proofs.promises.serving_leaves.Goals as goal

pub returns-clause-shown : goal.returns-clause-shown
returns-clause-shown c = served_shown

pub returns-clause-written : goal.returns-clause-written
returns-clause-written c = served_written

pub returns-clause-size : goal.returns-clause-size
returns-clause-size c = served_size

pub returns-clause-beside : goal.returns-clause-beside
returns-clause-beside c = served_beside
