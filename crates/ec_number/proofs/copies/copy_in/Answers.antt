use Rattle.std.proofs.Common.{◌∙◌, sym, ap}
use Rattle.std.specs.Option.{unwrap_or}
use Rattle.std.specs.Result.{result_ok}
use Rattle.ec_number.proofs.CopyLemmas.{taken}
use Rattle.ec_number.proofs.copies.copy_in.Goals as goal

pub returns-in-Ok : goal.returns-in-Ok
returns-in-Ok c =
    taken c.args.sent.now c.in-Ok.copy c.args.packet.now c.own_copy.result c.in-Ok.ensures.found
    (λ rs spelt.
    ap (λ r. unwrap_or (result_ok r) c.in-Ok.copy) (sym c.in-Ok.is ∙ c.read.ensures.only_found rs spelt))
    c.own_copy.ensures.came c.own_copy.ensures.kept

pub returns-in-Err : goal.returns-in-Err
returns-in-Err c = (
  tt,
  λ rs is. ap result_ok (sym c.in-Err.is ∙ c.read.ensures.only_found rs is.spelt),
)
