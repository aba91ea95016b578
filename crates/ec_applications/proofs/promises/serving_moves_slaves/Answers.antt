use Rattle.ec_applications.proofs.EepromLemmas.{all_moved}
use Rattle.ec_applications.proofs.promises.serving_moves_slaves.Goals as goal

pub returns : goal.returns
returns c = all_moved
