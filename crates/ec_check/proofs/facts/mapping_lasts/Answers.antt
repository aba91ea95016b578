use Rattle.ec_check.proofs.LastsLemmas.{mapping_step, mapping_al, mapping_inputs, mapping_told, moved_told}
use Rattle.ec_check.proofs.LastsLemmas.{mapping_repeated, moved_repeat_told, moved_repeated}
use Rattle.ec_check.proofs.facts.mapping_lasts.Goals as goal

pub returns-clause-step : goal.returns-clause-step
returns-clause-step c = mapping_step

pub returns-clause-al : goal.returns-clause-al
returns-clause-al c = mapping_al

pub returns-clause-inputs : goal.returns-clause-inputs
returns-clause-inputs c = mapping_inputs

pub returns-clause-told : goal.returns-clause-told
returns-clause-told c = mapping_told

pub returns-clause-moved : goal.returns-clause-moved
returns-clause-moved c = moved_told

pub returns-clause-repeated : goal.returns-clause-repeated
returns-clause-repeated c = mapping_repeated

pub returns-clause-moved_by_repeat : goal.returns-clause-moved_by_repeat
returns-clause-moved_by_repeat c = moved_repeated

pub returns-clause-moved_by_telling : goal.returns-clause-moved_by_telling
returns-clause-moved_by_telling c = moved_repeat_told
