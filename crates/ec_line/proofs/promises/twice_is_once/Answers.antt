use Rattle.ec_line.proofs.Laws.{twice_is_once}
use Rattle.ec_line.proofs.promises.twice_is_once.Goals as goal

pub returns : goal.returns
returns c = twice_is_once
