-- The table says what is known.
use Rattle.ec_diag.proofs.ToldLemmas.{told_exact}
use Rattle.ec_diag.proofs.heard.Heard.tells.Goals as goal

pub returns-clause-exact : goal.returns-clause-exact
returns-clause-exact c links = rw c.told.ensures (told_exact links c.args.slaves c.args.self)
