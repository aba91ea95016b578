use Rattle.ec_over_ring.proofs.Laws.{upload_held, upload_recovers}
use Rattle.ec_over_ring.proofs.recovery.uploads_recover.Goals as goal

pub returns-clause-result : goal.returns-clause-result
returns-clause-result c = upload_recovers

pub returns-clause-held : goal.returns-clause-held
returns-clause-held c = upload_held
