use Rattle.ec_over_ring.proofs.Laws.{download_leaves, upload_leaves}
use Rattle.ec_over_ring.proofs.brought.calls_leave_line.Goals as goal

pub returns-clause-upload : goal.returns-clause-upload
returns-clause-upload c = upload_leaves

pub returns-clause-download : goal.returns-clause-download
returns-clause-download c = download_leaves
