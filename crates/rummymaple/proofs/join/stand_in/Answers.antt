-- The bytes spell that frame alone.
use Rattle.rummymaple.proofs.join.stand_in.Goals as goal

pub returns : goal.returns
returns c frame spelt = (c.refill-read.ensures.only_found frame spelt).1
