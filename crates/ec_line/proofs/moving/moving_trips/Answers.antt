use Rattle.ec_line.proofs.Laws.{counts_returned, moving_alike, moving_mapping}
use Rattle.ec_line.proofs.moving.moving_trips.Goals as goal

pub returns-clause-counts : goal.returns-clause-counts
returns-clause-counts c = counts_returned

pub returns-clause-alike : goal.returns-clause-alike
returns-clause-alike c = moving_alike

pub returns-clause-mapping_stays : goal.returns-clause-mapping_stays
returns-clause-mapping_stays c = moving_mapping
