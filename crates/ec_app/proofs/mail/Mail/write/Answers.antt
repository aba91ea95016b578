use Rattle.std.proofs.Common.{rules, ◌≡◌, ℕ, ◌++◌, length, List, subst, ap, sym, ◌∙◌}
use Rattle.ec_app.specs.declared.mail.Mail.{Mail}
use Rattle.ec_app.specs.Mail.{sent, BeginsWith}
use Rattle.ec_app.specs.Sdo.{sdo_bytes, FitsSdo}
use Rattle.ec_app.proofs.SdoLemmas.{FitsSdo-FitsNumbers}
use Rattle.ec_app.proofs.MailLemmas.{BeginsWith-sent}
use Rattle.ec_app.proofs.mail.Mail.write.Goals as goal

pub returns-clause-value : goal.returns-clause-value
returns-clause-value c = search rules

pub returns-clause-read_back : goal.returns-clause-read_back
returns-clause-read_back c least proper rest =
    let m : Mail = c.args.self.now in
    let size : length c.write.result ≡ 8 = search rules in
    let spelling : length (sdo_bytes m.sdo) ≡ 8 =
    sym (ap (λ (xs : List ℕ). length xs) c.write.ensures.value) ∙ size in
    let fits : FitsSdo m.sdo = FitsSdo-FitsNumbers m.sdo c.write.ensures.fits spelling in
    let Begins : List ℕ → Type 0 = λ xs. BeginsWith (xs ++ rest) (sent m) in
    subst Begins (sym (returns-clause-value c))
    (BeginsWith-sent m rest least c.requires.counter c.requires.service fits proper)
