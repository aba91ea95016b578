-- The table says what is known.
use Rattle.ec_diag.proofs.JoinLemmas.{heard_exact}
use Rattle.ec_diag.proofs.located.Located.and_heard.Goals as goal

pub returns-clause-exact : goal.returns-clause-exact
returns-clause-exact c links = rw c.and_copy.ensures (heard_exact links c.args.slaves c.args.self c.args.heard)
