use Rattle.std.proofs.Common.{◌≡◌, true, false, sym}
use Rattle.ec_regs.specs.SyncMan.{is_active}
use Rattle.ec_esc.proofs.ApplicationLemmas.{mailbox_length-le}
use Rattle.ec_esc.proofs.application.check_mail_is_there.Goals as goal
use Rattle.ec_esc.proofs.application.check_mail_is_there.Goals.{then-is_mailbox, else-is_mailbox}

pub returns-else-not-is_full-clause-bound : goal.returns-else-not-is_full-clause-bound
returns-else-not-is_full-clause-bound c =
    let active : is_active c.args.manager.now ≡ true = cc in
    elim c.if-is_mailbox.branch [
      | then-is_mailbox w ↦ mailbox_length-le c.args.manager.now active (sym w.if-is_mailbox.ensures)
      | else-is_mailbox w ↦ absurd (let no : true ≡ false = cc in cc)
    ]
