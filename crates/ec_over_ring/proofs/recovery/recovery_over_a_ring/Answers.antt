use Rattle.ec_over_ring.proofs.Laws.{ring_downloaded, ring_refused, ring_uploaded}
use Rattle.ec_over_ring.proofs.recovery.recovery_over_a_ring.Goals as goal

pub returns-clause-uploaded : goal.returns-clause-uploaded
returns-clause-uploaded c = ring_uploaded

pub returns-clause-downloaded : goal.returns-clause-downloaded
returns-clause-downloaded c = ring_downloaded

pub returns-clause-refused : goal.returns-clause-refused
returns-clause-refused c = ring_refused
