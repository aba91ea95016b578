use Rattle.std.proofs.lemmas.Result.{IfOk-weaker}
use Rattle.ecat_commands.proofs.CommandLemmas.{Builds-args}
use Rattle.ecat_commands.proofs.commands.command.Goals as goal

pub returns : goal.returns
returns c rules are =
    IfOk-weaker c.args-2.result _ _ (λ r added. Builds-args _ r _ _ rules added c.plain.ensures are)
    c.args-2.ensures
