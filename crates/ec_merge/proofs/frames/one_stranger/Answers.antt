use Rattle.ec_merge.proofs.FrameLemmas.{own_no_stranger, stranger_one}
use Rattle.ec_merge.proofs.frames.one_stranger.Goals as goal

pub returns : goal.returns
returns c = record { one = stranger_one; not_own = own_no_stranger }
