use Rattle.ec_app.proofs.MailLemmas.{mail_bytes_begin}
use Rattle.ec_app.proofs.mail.one_mail.Goals as goal

pub returns : goal.returns
returns c = mail_bytes_begin
