use Rattle.ecat_judge.proofs.WithoutLemmas.{lacking_is}
use Rattle.ecat_judge.proofs.promises.missing_lacks.Goals as goal

pub returns : goal.returns
returns c = lacking_is
