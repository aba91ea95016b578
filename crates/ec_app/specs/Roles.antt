-- What the first four sync managers of a slave are for: 0 is the mailbox of the master's requests, 1 that of
-- the slave's answers, 2 guards its outputs and 3 its inputs (IEC 61158-4-12, sync manager; IEC 61158-6-12,
-- AL management).
use Rattle.std.specs.Prelude.{ℕ, Bool, ◌==◌, ◌&&◌, not, if◌then◌else◌, List}
use Rattle.ec_regs.specs.declared.sync_man.SyncMan.{SyncMan}
use Rattle.ec_regs.specs.SyncMan.{is_active, is_mailbox, master_reads, master_writes}
use Rattle.ec_areas.specs.Ranges.{meets}
use Rattle.ec_areas.specs.Records.{sync_manager_at}
use Rattle.ec_regs.specs.SyncMan.{guards_outputs, guards_inputs}
use Rattle.ec_app.specs.declared.roles.TheConstants.{REQUEST_MAILBOX, ANSWER_MAILBOX}

-- does the sync manager guard a mailbox that the master writes, or one that it reads
abbrev pub is_request_mailbox : SyncMan → Bool
is_request_mailbox s = is_active s && is_mailbox s && master_writes s

abbrev pub is_answer_mailbox : SyncMan → Bool
is_answer_mailbox s = is_active s && is_mailbox s && master_reads s

-- are both mailboxes there, and do they share no byte
abbrev pub has_mailboxes : List ℕ → Bool
has_mailboxes memory =
    let requests = sync_manager_at memory REQUEST_MAILBOX in
    let answers = sync_manager_at memory ANSWER_MAILBOX
    in is_request_mailbox requests
    && is_answer_mailbox answers
    && not (meets requests answers.start answers.length)

-- does the sync manager guard outputs, or inputs, of this length, or nothing where the length is 0
abbrev pub fits_outputs : SyncMan → ℕ → Bool
fits_outputs s n = if n == 0 then not (is_active s) else guards_outputs s && s.length == n

abbrev pub fits_inputs : SyncMan → ℕ → Bool
fits_inputs s n = if n == 0 then not (is_active s) else guards_inputs s && s.length == n
