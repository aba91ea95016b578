use Rattle.ec_line.proofs.Laws.{no_area_twice}
use Rattle.ec_line.proofs.promises.no_area_twice.Goals as goal

pub returns : goal.returns
returns c = no_area_twice
