use Rattle.ec_line.proofs.Laws.{alike_by_mapping, moved_by_mapping}
use Rattle.ec_line.proofs.promises.moves_by_mapping.Goals as goal

pub returns-clause-alike : goal.returns-clause-alike
returns-clause-alike c = alike_by_mapping

pub returns-clause-moved : goal.returns-clause-moved
returns-clause-moved c = moved_by_mapping
