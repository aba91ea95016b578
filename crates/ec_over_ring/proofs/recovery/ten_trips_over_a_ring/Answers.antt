use Rattle.ec_over_ring.proofs.Laws.{ring_answers_download, ring_answers_upload}
use Rattle.ec_over_ring.proofs.recovery.ten_trips_over_a_ring.Goals as goal

pub returns-clause-upload : goal.returns-clause-upload
returns-clause-upload c = ring_answers_upload

pub returns-clause-download : goal.returns-clause-download
returns-clause-download c = ring_answers_download
