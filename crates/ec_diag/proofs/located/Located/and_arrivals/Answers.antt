-- The table says what is known.
use Rattle.ec_diag.specs.Arrivals.{heard_arrival}
use Rattle.ec_diag.proofs.JoinLemmas.{arrivals_exact}
use Rattle.ec_diag.proofs.located.Located.and_arrivals.Goals as goal

pub returns-clause-exact : goal.returns-clause-exact
returns-clause-exact c links =
    rw c.and_both.ensures
    (arrivals_exact links c.args.slaves c.args.self (heard_arrival c.args.sent.now c.args.came.now.a)
    (heard_arrival c.args.sent.now c.args.came.now.b))
