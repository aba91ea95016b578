use Rattle.ec_line.proofs.Laws.{reached_memories}
use Rattle.ec_line.proofs.promises.reached_memories.Goals as goal

pub returns : goal.returns
returns c = reached_memories
