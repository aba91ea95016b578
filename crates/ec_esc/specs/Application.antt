-- The application's side of a controller: AL control and AL status, outputs and inputs, and mail (IEC
-- 61158-4-12, sync manager, and IEC 61158-6-12, AL management). What it writes stands in the memory alone,
-- where the wire reads it; what it is shown stays.
use Rattle.std.specs.Prelude.{ℕ, ◌+◌, ◌-◌, ◌*◌, false, ◌==◌, ◌&&◌, not, nat_le, if◌then◌else◌, Option, Bool}
use Rattle.std.specs.List.{list_any}
use Rattle.ec_regs.specs.AddressRange.{lies_within}
use Rattle.ec_regs.specs.declared.address_range.AddressRange.{AddressRange}
use Rattle.ec_regs.specs.declared.registers.TheConstants.{CONTROLLER_TYPE, INFORMATION_SIZE, DL_STATUS}
use Rattle.ec_regs.specs.declared.registers.TheConstants.{ERROR_COUNTERS, ERROR_COUNTERS_SIZE, LOST_LINK}
use Rattle.ec_regs.specs.declared.registers.TheConstants.{SII_BASE, SII_SIZE}
use Rattle.std.specs.Prelude.{None, Some, List, [], ◌∷◌, ◌++◌, length, take, drop, slice_index, slice_range}
use Rattle.std.specs.Prelude.{replicate, slice_set}
use Rattle.std.specs.Int.{w16, to_le_bytes}
use Rattle.ec_regs.specs.Al.{status_byte, status_of}
use Rattle.ec_regs.specs.declared.al.AlStatus.{AlStatus}
use Rattle.ec_regs.specs.declared.sync_man.SyncMan.{SyncMan}
use Rattle.ec_regs.specs.declared.registers.TheConstants.{AL_CONTROL, AL_STATUS, AL_STATUS_CODE}
use Rattle.ec_regs.specs.declared.registers.TheConstants.{PROCESS_MEMORY}
use Rattle.ec_esc.specs.declared.application.AreaFault.{AreaFault}
use Rattle.ec_esc.specs.declared.application.AreaFault.TheVariants.{NotActive, WrongKind, WrongLength, Busy}
use Rattle.ec_regs.specs.SyncMan.{guards_outputs, is_active, is_buffered, is_mailbox, master_reads}
use Rattle.ec_regs.specs.SyncMan.{master_writes}
use Rattle.ec_esc.specs.Writing.{with_emptied, with_filled}
use Rattle.ec_regs.specs.SyncMan.{is_full, pdi_address, repeat_asked}
use Rattle.ec_areas.specs.Records.{sync_manager_at}
use Rattle.ec_esc.specs.State.{ControllerState, with_run, word_at}

-- ---- AL control and AL status

-- AL control, where it was written since the application last took it
abbrev pub new_control : ControllerState → Option ℕ
new_control c = if c.written then Some (word_at c.memory AL_CONTROL) else None

-- the controller once the application has taken it
abbrev pub with_control_taken : ControllerState → ControllerState
with_control_taken c = record c { written = false }

-- the controller with this AL status, whose high byte is 0, and this AL status code, its low byte first
abbrev pub with_al : ControllerState → AlStatus → ℕ → ControllerState
with_al c status code =
    let with_status = with_run c.memory AL_STATUS (status_byte status ∷ 0 ∷ []) in
    record c { memory = with_run with_status AL_STATUS_CODE (to_le_bytes w16 code) }

-- its AL status and its AL status code
abbrev pub al_status : ControllerState → AlStatus
al_status c = status_of (slice_index c.memory AL_STATUS)

abbrev pub al_status_code : ControllerState → ℕ
al_status_code c = word_at c.memory AL_STATUS_CODE

-- ---- registers that the master reads, and that no rule of this crate interprets but by whether there is a
-- slave information interface

-- what the controller tells of itself, DL status, the counters of errors at its ports, and the slave
-- information interface
abbrev pub told_ranges : List AddressRange
told_ranges =
    record { first = CONTROLLER_TYPE; count = INFORMATION_SIZE }
    ∷ record { first = DL_STATUS; count = 2 }
    ∷ record { first = ERROR_COUNTERS; count = ERROR_COUNTERS_SIZE }
    ∷ record { first = SII_BASE; count = SII_SIZE }
    ∷ []

-- do n bytes from an address on lie in one of them
abbrev pub are_told : ℕ → ℕ → Bool
are_told from n = list_any (λ (r : AddressRange). lies_within r.first r.count from n) told_ranges

-- the controller with these bytes from an address on; what it shows stays
abbrev pub with_registers : ControllerState → ℕ → List ℕ → ControllerState
with_registers c address bytes = record c { memory = with_run c.memory address bytes }

-- the registers of its slave information interface
abbrev pub sii_registers : ControllerState → List ℕ
sii_registers c = slice_range c.memory SII_BASE (SII_BASE + SII_SIZE)

-- the counters of lost links at ports 0 and 1
abbrev pub lost_links : ControllerState → List ℕ
lost_links c = slice_index c.memory LOST_LINK ∷ slice_index c.memory (LOST_LINK + 1) ∷ []

-- ---- process data

-- the shown bytes of an area
abbrev pub shown_area : SyncMan → List ℕ → List ℕ
shown_area s shown = slice_range shown (s.start - PROCESS_MEMORY) (s.start - PROCESS_MEMORY + s.length)

-- the outputs of the sync manager with a number: the shown bytes of its area, where it guards outputs
abbrev pub outputs_of : ControllerState → ℕ → Option (List ℕ)
outputs_of c i =
    let s = sync_manager_at c.memory i in if guards_outputs s then Some (shown_area s c.shown) else None

-- why these bytes are no inputs of the sync manager
abbrev pub put_inputs_fault : SyncMan → List ℕ → Option AreaFault
put_inputs_fault s bytes =
    if not (is_active s) then Some NotActive else
    (if not (is_buffered s && master_reads s) then Some WrongKind else
    (if not (length bytes == s.length) then Some WrongLength else None))

-- the controller with these inputs in the area of the sync manager with a number
abbrev pub with_inputs : ControllerState → ℕ → List ℕ → ControllerState
with_inputs c i bytes = record c { memory = with_run c.memory (sync_manager_at c.memory i).start bytes }

-- ---- mail

-- why there is no mail to take from the sync manager
abbrev pub take_mail_fault : SyncMan → Option AreaFault
take_mail_fault s =
    if not (is_active s) then Some NotActive else
    (if not (is_mailbox s && master_writes s) then Some WrongKind else
    (if not (is_full s) then Some Busy else None))

-- the mail of a sync manager: its whole area
abbrev pub mail_of : SyncMan → List ℕ → List ℕ
mail_of s memory = take s.length (drop s.start memory)

-- the controller once the mailbox of the sync manager with a number was emptied
abbrev pub with_mail_taken : ControllerState → ℕ → ControllerState
with_mail_taken c i = record c { memory = with_emptied (Some i) c.memory }

-- why the sync manager does not take this mail
abbrev pub put_mail_fault : SyncMan → List ℕ → Option AreaFault
put_mail_fault s mail =
    if not (is_active s) then Some NotActive else
    (if not (is_mailbox s && master_reads s) then Some WrongKind else
    (if not (nat_le (length mail) s.length) then Some WrongLength else
    (if is_full s then Some Busy else None)))

-- a mail as it fills an area: zeros after it
abbrev pub mail_area : SyncMan → List ℕ → List ℕ
mail_area s mail = mail ++ replicate (s.length - length mail) 0

-- the controller once the mailbox of the sync manager with a number was filled with a mail
abbrev pub with_mail_put : ControllerState → ℕ → List ℕ → ControllerState
with_mail_put c i mail =
    let s = sync_manager_at c.memory i
    in record c { memory = with_filled (Some i) (with_run c.memory s.start (mail_area s mail)) }

-- why there is no mail to be had once more of the sync manager
abbrev pub repeat_mail_fault : SyncMan → Option AreaFault
repeat_mail_fault s =
    if not (is_active s) then Some NotActive else
    (if not (is_mailbox s && master_reads s) then Some WrongKind else None)

-- does a mail stand in its area: not all bytes are 0
abbrev pub has_bytes : List ℕ → Bool
has_bytes area = list_any (λ byte. not (byte == 0)) area

abbrev pub holds_mail : SyncMan → List ℕ → Bool
holds_mail s memory = has_bytes (mail_of s memory)

-- the memory in which the mailbox is full where a mail stood in its area
abbrev pub with_mail_again : SyncMan → ℕ → List ℕ → List ℕ → List ℕ
with_mail_again s i stood memory = if holds_mail s stood then with_filled (Some i) memory else memory

-- the controller once the PDI byte of the sync manager with a number tells that what its activate byte asks
-- for was done
abbrev pub with_repeat_told : ControllerState → ℕ → ControllerState
with_repeat_told c i = record c {
  memory = slice_set c.memory (pdi_address i) (2 * repeat_asked (sync_manager_at c.memory i));
}

-- and once its mailbox has its last mail again besides, if it had one
abbrev pub with_mail_repeated : ControllerState → ℕ → ControllerState
with_mail_repeated c i =
    let s = sync_manager_at c.memory i in
    record c { memory = with_mail_again s i c.memory (with_repeat_told c i).memory }
