use Rattle.ecat_replay.proofs.AlikeLemmas.{alike-none, none-alike}
use Rattle.ecat_replay.proofs.promises.alike_answers.Goals as goal

pub returns-clause-alike : goal.returns-clause-alike
returns-clause-alike c = alike-none

pub returns-clause-none : goal.returns-clause-none
returns-clause-none c = none-alike
