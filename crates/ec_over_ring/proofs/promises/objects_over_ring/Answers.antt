use Rattle.ec_over_ring.proofs.Laws.{object_read, object_written, object_holds}
use Rattle.ec_over_ring.proofs.promises.objects_over_ring.Goals as goal

pub returns-clause-read : goal.returns-clause-read
returns-clause-read c = object_read

pub returns-clause-written : goal.returns-clause-written
returns-clause-written c = object_written

pub returns-clause-holds : goal.returns-clause-holds
returns-clause-holds c = object_holds
