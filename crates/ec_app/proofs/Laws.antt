-- The laws that crates above cite: what a step of a slave leaves.
use Rattle.std.proofs.Common.{◌≡◌, ◌≤◌, ℕ, Bool, true, false, ◌||◌, List, length, get_or, None}
use Rattle.ec_regs.specs.SyncMan.{is_active, is_mailbox, master_reads}
use Rattle.ec_regs.specs.declared.al.AlStatus.{AlStatus}
use Rattle.ec_regs.specs.declared.registers.TheConstants.{AL_STATUS, MEMORY_SIZE, PROCESS_MEMORY}
use Rattle.ec_regs.specs.declared.sync_man.SyncMan.{SyncMan}
use Rattle.ec_esc.specs.Application.{with_al, with_mail_taken}
use Rattle.ec_areas.specs.Areas.{locks}
use Rattle.ec_areas.specs.Records.{sync_manager_at}
use Rattle.ec_esc.specs.State.{ControllerState, with_run}
use Rattle.ec_app.specs.AlStep.{al_step}
use Rattle.ec_app.specs.Left.{SameLeft}
use Rattle.ec_app.specs.Mail.{mail_fault, fault_for}
use Rattle.ec_app.specs.MailStep.{can_answer, mail_step}
use Rattle.ec_app.specs.Sdo.{sdo_bytes}
use Rattle.ec_app.specs.Slave.{step}
use Rattle.ec_app.specs.State.{SlaveState}
use Rattle.ec_app.specs.declared.roles.TheConstants.{ANSWER_MAILBOX}
use Rattle.ec_app.specs.declared.sdo.Sdo.TheVariants.{UploadAnswer}
use Rattle.ec_app.specs.declared.value.Value.{Value}
use Rattle.ec_app.proofs.LeftLemmas as left
use Rattle.ec_app.proofs.AreaLemmas as areas
use Rattle.ec_app.proofs.MailLemmas as mail
use Rattle.ec_app.proofs.MailStepLemmas as mails

-- a step leaves the registers that neither of its machines writes
pub step_leaves : (s : SlaveState) → length s.controller.memory ≡ MEMORY_SIZE
    → SameLeft s.controller.memory (step s).controller.memory
step_leaves = left.step_leaves

-- so does the half of a step that looks at AL control
pub al_step_left : (s : SlaveState) → length s.controller.memory ≡ MEMORY_SIZE
    → SameLeft s.controller.memory (al_step s).controller.memory
al_step_left = left.al_step_left

-- which leaves process memory, too
pub al_step_bytes : (s : SlaveState) (a : ℕ) → length s.controller.memory ≡ MEMORY_SIZE → PROCESS_MEMORY ≤ a
    → get_or (al_step s).controller.memory a 0 ≡ get_or s.controller.memory a 0
al_step_bytes s a size process = (left.al_step_process s size).bytes a process

-- and what the application is shown
pub al_step_shown : (s : SlaveState) → length s.controller.memory ≡ MEMORY_SIZE
    → (al_step s).controller.shown ≡ s.controller.shown
al_step_shown s size = (left.al_step_process s size).shown

-- AL status and its code leave the registers too
pub al_left : (c : ControllerState) (status : AlStatus) (code : ℕ) → length c.memory ≡ MEMORY_SIZE
    → SameLeft c.memory (with_al c status code).memory
al_left = left.al_left

-- so does the half of a step that looks at the mailboxes
pub mail_step_left : (s : SlaveState) → length s.controller.memory ≡ MEMORY_SIZE
    → SameLeft s.controller.memory (mail_step s).controller.memory
mail_step_left = left.mail_step_left

-- and AL status
pub mail_step_status : (s : SlaveState) → length s.controller.memory ≡ MEMORY_SIZE
    → get_or (mail_step s).controller.memory AL_STATUS 0 ≡ get_or s.controller.memory AL_STATUS 0
mail_step_status = left.mail_step_status

-- and each byte of process memory that the mailbox of answers does not lock
pub mail_step_bytes : (s : SlaveState) (a : ℕ) → length s.controller.memory ≡ MEMORY_SIZE → PROCESS_MEMORY ≤ a
    → locks (sync_manager_at s.controller.memory ANSWER_MAILBOX) a ≡ false
    → get_or (mail_step s).controller.memory a 0 ≡ get_or s.controller.memory a 0
mail_step_bytes s a size process free = (left.mail_step_outputs s size).bytes a process free

-- and what the application is shown
pub mail_step_shown : (s : SlaveState) → length s.controller.memory ≡ MEMORY_SIZE
    → (mail_step s).controller.shown ≡ s.controller.shown
mail_step_shown s size = (left.mail_step_outputs s size).shown

-- whether it can answer does not depend on whether a request is taken
pub can_answer-taken : (c : ControllerState) → can_answer (with_mail_taken c 0) ≡ can_answer c
can_answer-taken = mails.can_answer-taken

-- the SDO of an answer to an upload has eight bytes
pub uploaded_eight : (i j : ℕ) (v : Value) → length (sdo_bytes (UploadAnswer i j v)) ≡ 8
uploaded_eight = left.uploaded_eight

-- ---- areas

-- bytes that are put into the area of a mailbox, or of inputs, leave each byte that the area does not lock
pub area_free : (memory : List ℕ) (s : SyncMan) (a : ℕ) (bytes : List ℕ) → length memory ≡ MEMORY_SIZE
    → is_active s ≡ true → (is_mailbox s || master_reads s) ≡ true → length bytes ≤ s.length
    → locks s a ≡ false → get_or (with_run memory s.start bytes) a 0 ≡ get_or memory a 0
area_free = areas.area_free

-- bytes without a fault have none for a device
pub no_fault_for : (device : Bool) (bytes : List ℕ) → mail_fault bytes ≡ None → fault_for device bytes ≡ None
no_fault_for = mail.no_fault_for
