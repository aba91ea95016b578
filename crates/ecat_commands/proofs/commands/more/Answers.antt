use Rattle.std.proofs.lemmas.Result.{IfOk-weaker}
use Rattle.ecat_commands.proofs.CommandLemmas.{Builds-args}
use Rattle.ecat_commands.proofs.commands.more.Goals as goal

pub returns : goal.returns
returns c line rules is are =
    IfOk-weaker c.args-2.result _ _ (λ r added. Builds-args _ r _ _ rules added is are) c.args-2.ensures
