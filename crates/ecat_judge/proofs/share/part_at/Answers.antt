use Rattle.ecat_judge.specs.Share.{part_at}
use Rattle.ecat_judge.proofs.share.part_at.Goals as goal

pub returns : goal.returns
unfolding part_at
returns c = c.part.ensures
