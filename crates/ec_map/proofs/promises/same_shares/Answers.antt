use Rattle.ec_map.proofs.MappingLemmas as lemmas
use Rattle.ec_map.proofs.promises.same_shares.Goals as goal

pub returns : goal.returns
returns c = lemmas.share_asked
