use Rattle.ec_over_ring.proofs.Laws.{begins, decides, keeps}
use Rattle.ec_over_ring.proofs.recovery.calls_keep_their_own.Goals as goal

pub returns-clause-begins : goal.returns-clause-begins
returns-clause-begins c = begins

pub returns-clause-keeps : goal.returns-clause-keeps
returns-clause-keeps c = keeps

pub returns-clause-decides : goal.returns-clause-decides
returns-clause-decides c = decides
