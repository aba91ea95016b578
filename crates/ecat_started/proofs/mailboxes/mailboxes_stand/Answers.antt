use Rattle.ecat_started.proofs.MailboxLemmas.{mailboxes}
use Rattle.ecat_started.proofs.mailboxes.mailboxes_stand.Goals as goal

pub returns : goal.returns
returns c = mailboxes
