use Rattle.std.proofs.Common.{rules, sym, ◌∙◌, subst}
use Rattle.ec_app.specs.Mail.{BeginsWith}
use Rattle.ec_app.proofs.MailLemmas.{BeginsWith-mail_of}
use Rattle.ec_app.proofs.mail.decode.Goals as goal

pub returns-in-None-clause-found : goal.returns-in-None-clause-found
returns-in-None-clause-found c =
    let bytes = c.args.bytes.now in
    subst (BeginsWith bytes) (sym c.fields.ensures)
    (BeginsWith-mail_of bytes (λ i. search (rules, c.type_inv.bytes i))
    (sym c.first_fault.ensures.value ∙ c.in-None.is))
