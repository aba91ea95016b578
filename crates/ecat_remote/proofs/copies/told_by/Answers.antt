use Rattle.std.specs.Prelude.{◌≡◌, Err, Ok}
use Rattle.std.proofs.Common.{◌∙◌, sym, ap}
use Rattle.std.specs.Option.{unwrap_or}
use Rattle.std.specs.Result.{result_ok}
use Rattle.ecat_remote.proofs.CopyLemmas.{copy_told, none_told}
use Rattle.ecat_remote.proofs.copies.told_by.Goals as goal

pub returns-in-Ok : goal.returns-in-Ok
returns-in-Ok c = λ trip frame are.
    copy_told trip frame c.in-Ok.frame c.args.sent.now c.args.already c.args.packet.now c.own_copy.result are
    c.in-Ok.ensures.found
    (λ rs spelt.
    ap (λ r. unwrap_or (result_ok r) c.in-Ok.frame) (sym c.in-Ok.is ∙ c.read.ensures.only_found rs spelt))
    c.own_copy.ensures.found c.own_copy.ensures.every

pub returns-in-Err : goal.returns-in-Err
returns-in-Err c = λ trip frame are.
    none_told trip frame c.args.already c.args.packet.now
    (λ rs spelt. let no : Err _ ≡ Ok rs = sym c.in-Err.is ∙ c.read.ensures.only_found rs spelt in absurd (cc))
