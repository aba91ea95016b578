use Rattle.ec_line.proofs.Laws.{good_moments, moving_outputs, moving_shown}
use Rattle.ec_line.proofs.moving.good_moments.Goals as goal

pub returns-clause-answered : goal.returns-clause-answered
returns-clause-answered c = good_moments

pub returns-clause-outputs : goal.returns-clause-outputs
returns-clause-outputs c = moving_outputs

pub returns-clause-shown : goal.returns-clause-shown
returns-clause-shown c = moving_shown
