use Rattle.ec_map.proofs.LawLemmas.{Accepts-IsPlaced}
use Rattle.ec_map.proofs.promises.accepted_items.Goals as goal

pub returns : goal.returns
returns c = λ line r fit item placed. Accepts-IsPlaced line r fit item placed
