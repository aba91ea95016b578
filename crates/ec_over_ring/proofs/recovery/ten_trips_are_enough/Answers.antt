use Rattle.ec_over_ring.proofs.Laws.{calm_download, calm_upload}
use Rattle.ec_over_ring.proofs.recovery.ten_trips_are_enough.Goals as goal

pub returns-clause-upload : goal.returns-clause-upload
returns-clause-upload c = calm_upload

pub returns-clause-download : goal.returns-clause-download
returns-clause-download c = calm_download
