use Rattle.ec_sii.proofs.ServedLemmas.{served_without, served_controller, served_mapping, served_moved}
use Rattle.ec_sii.proofs.promises.serving_moves.Goals as goal

pub returns-clause-without : goal.returns-clause-without
returns-clause-without c = served_without

pub returns-clause-stays : goal.returns-clause-stays
returns-clause-stays c = served_controller

pub returns-clause-mapping : goal.returns-clause-mapping
returns-clause-mapping c = served_mapping

pub returns-clause-moved : goal.returns-clause-moved
returns-clause-moved c = served_moved
