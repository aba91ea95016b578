use Rattle.ec_over_ring.proofs.Laws.{ports_downloaded, ports_uploaded}
use Rattle.ec_over_ring.proofs.recovery.recovery_over_ring_ports.Goals as goal

pub returns-clause-uploaded : goal.returns-clause-uploaded
returns-clause-uploaded c = ports_uploaded

pub returns-clause-downloaded : goal.returns-clause-downloaded
returns-clause-downloaded c = ports_downloaded
