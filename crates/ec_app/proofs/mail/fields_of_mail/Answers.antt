use Rattle.ec_app.proofs.MailLemmas.{mail_of-BeginsWith}
use Rattle.ec_app.proofs.mail.fields_of_mail.Goals as goal

pub returns : goal.returns
returns c = mail_of-BeginsWith
