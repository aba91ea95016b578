-- A device gives its master the last mail once more, whose answer was lost: the master changes bit 1 of the
-- activate byte of the mailbox that it reads, and the device follows in the PDI byte (IEC 61158-4-12, sync
-- manager, repeat request).
use Rattle.std.specs.Prelude.{ℕ, Bool, ◌==◌, ◌&&◌, ◌||◌, if◌then◌else◌, List, is_none}
use Rattle.ec_app.specs.MailStep.{has_mail}
use Rattle.ec_app.specs.declared.roles.TheConstants.{ANSWER_MAILBOX}
use Rattle.ec_areas.specs.Ranges.{has_sii}
use Rattle.ec_areas.specs.Records.{sync_manager_at}
use Rattle.ec_esc.specs.Application.{al_status, repeat_mail_fault, with_mail_repeated, with_repeat_told}
use Rattle.ec_esc.specs.State.{ControllerState}
use Rattle.ec_regs.specs.SyncMan.{asks_again, pdi_address, status_address}

-- is it a device whose master asks so
abbrev pub is_asked_again : ControllerState → Bool
is_asked_again c = has_sii c.memory && asks_again (sync_manager_at c.memory ANSWER_MAILBOX)

-- can a mail be given: its state has mails, and the mailbox is there
abbrev pub can_give : ControllerState → Bool
can_give c =
    has_mail (al_status c).state && is_none (repeat_mail_fault (sync_manager_at c.memory ANSWER_MAILBOX))

-- the controller whose master has the last mail once more, if one can be given; else it is told alone that
-- this was done, so that a mail of before is none of a master's that starts it anew
abbrev pub given_again : ControllerState → ControllerState
given_again c =
    if can_give c then with_mail_repeated c ANSWER_MAILBOX else with_repeat_told c ANSWER_MAILBOX

-- the controller, where that is asked for; any other one stays as it is
abbrev pub repeated : ControllerState → ControllerState
repeated c = if is_asked_again c then given_again c else c

-- is an address, in a device, the status byte or the PDI byte of that mailbox, which tell of it
abbrev pub is_of_repeats : List ℕ → ℕ → Bool
is_of_repeats memory address =
    (address == status_address ANSWER_MAILBOX || address == pdi_address ANSWER_MAILBOX) && has_sii memory
