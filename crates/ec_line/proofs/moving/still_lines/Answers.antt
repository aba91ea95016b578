use Rattle.ec_line.proofs.Laws.{still_lines}
use Rattle.ec_line.proofs.moving.still_lines.Goals as goal

pub returns : goal.returns
returns c = still_lines
