-- Steps and applications move as an application may.
use Rattle.ec_line.proofs.Laws.{moved-trans}
use Rattle.ec_applications.proofs.LeftLemmas.{acted_moved}
use Rattle.ec_applications.proofs.StepLemmas.{step_leaves_outputs, leaves_moved}
use Rattle.ec_applications.proofs.promises.moves_between_passages.Goals as goal

pub returns-clause-step : goal.returns-clause-step
returns-clause-step c s was is = leaves_moved s.controller _ is (step_leaves_outputs s was.memory_size)

pub returns-clause-acting : goal.returns-clause-acting
returns-clause-acting c = acted_moved

pub returns-clause-both : goal.returns-clause-both
returns-clause-both c = moved-trans
