use Rattle.ec_map.proofs.MappingLemmas as lemmas
use Rattle.ec_map.proofs.promises.placed_by_mapping.Goals as goal

pub returns : goal.returns
returns c = lemmas.placed_by_mapping
