use Rattle.ec_wire.proofs.LawLemmas.{one_spelling}
use Rattle.ec_wire.proofs.read.one_spelling.Goals as goal

pub returns : goal.returns
returns c = one_spelling
