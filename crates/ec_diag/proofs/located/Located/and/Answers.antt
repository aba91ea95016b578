-- The table says what is known.
use Rattle.ec_diag.proofs.JoinLemmas.{told_exact}
use Rattle.ec_diag.proofs.located.Located.and.Goals as goal

pub returns-clause-exact : goal.returns-clause-exact
returns-clause-exact c links = rw c.and_told.ensures (told_exact links c.args.slaves c.args.self c.args.told)
