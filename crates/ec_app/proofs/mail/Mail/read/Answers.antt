use Rattle.ec_app.proofs.MailLemmas.{found_in-mail_bytes}
use Rattle.ec_app.proofs.mail.Mail.read.Goals as goal

pub returns-clause-only : goal.returns-clause-only
returns-clause-only c =
    found_in-mail_bytes c.args.bytes.now c.decode.result c.decode.ensures.found c.decode.ensures.fault
