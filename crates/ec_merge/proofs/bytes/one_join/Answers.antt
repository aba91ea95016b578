use Rattle.ec_merge.proofs.BytesLemmas.{IsJoined-one}
use Rattle.ec_merge.proofs.bytes.one_join.Goals as goal

pub returns : goal.returns
returns c = IsJoined-one
