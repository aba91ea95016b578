use Rattle.ec_over_ring.proofs.Laws.{left_in_op, recovered}
use Rattle.ec_over_ring.proofs.brought.recovered.Goals as goal

pub returns-clause-brought : goal.returns-clause-brought
returns-clause-brought c = recovered

pub returns-clause-left : goal.returns-clause-left
returns-clause-left c place wanted tells outcome r later before s behind has op recovers =
    left_in_op place wanted tells r later before s behind outcome has op recovers
