use Rattle.ec_map.proofs.AnyOrderLemmas as lemmas
use Rattle.ec_map.proofs.lasting.placed_in_any_order.Goals as goal

pub returns : goal.returns
returns c = lemmas.placed_in_any_order
