use Rattle.ec_over_ring.proofs.Laws.{upload_answered, download_answered, objects_answered, answered_again}
use Rattle.ec_over_ring.proofs.promises.transfers_over_ring.Goals as goal

pub returns-clause-upload : goal.returns-clause-upload
returns-clause-upload c = upload_answered

pub returns-clause-download : goal.returns-clause-download
returns-clause-download c = download_answered

pub returns-clause-objects : goal.returns-clause-objects
returns-clause-objects c = objects_answered

pub returns-clause-again : goal.returns-clause-again
returns-clause-again c = answered_again
