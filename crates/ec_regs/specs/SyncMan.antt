-- The sync manager record: eight bytes, field after field, the lowest byte of a number first; and what its
-- fields say: an active sync manager guards an area, a run of process memory that is buffered or a mailbox,
-- and that the master either reads or writes (IEC 61158-4-12, sync manager entity).
use Rattle.std.specs.Prelude.{ℕ, ◌+◌, ◌*◌, ◌/◌, ◌%◌, Bool, ◌==◌, ◌&&◌, ◌||◌, not, nat_le, if◌then◌else◌}
use Rattle.std.specs.Prelude.{List, [], ◌∷◌, ◌++◌, take, drop, slice_index}
use Rattle.std.specs.Int.{bit_at, w16, to_le_bytes, from_le_bytes}
use Rattle.ec_regs.specs.declared.sync_man.SyncMan.{SyncMan}
use Rattle.ec_regs.specs.declared.registers.TheConstants.{PROCESS_MEMORY, MEMORY_SIZE, SYNC_MANAGER_BASE}
use Rattle.ec_regs.specs.declared.registers.TheConstants.{SYNC_MANAGER_SIZE, SYNC_MANAGER_STATUS}
use Rattle.ec_regs.specs.declared.registers.TheConstants.{SYNC_MANAGER_PDI}
use Rattle.ec_regs.specs.declared.sync_man.TheConstants.{START_AT, LENGTH_AT, CONTROL_AT, STATUS_AT}
use Rattle.ec_regs.specs.declared.sync_man.TheConstants.{ACTIVATE_AT, PDI_AT}

-- the bytes that spell a record
abbrev pub sync_man_bytes : SyncMan → List ℕ
sync_man_bytes s =
    to_le_bytes w16 s.start ++ to_le_bytes w16 s.length ++ s.control ∷ s.status ∷ s.activate ∷ s.pdi ∷ []

-- the record that eight bytes spell
abbrev pub sync_man_of : List ℕ → SyncMan
sync_man_of bs = record {
  start = from_le_bytes w16 (take 2 (drop START_AT bs));
  length = from_le_bytes w16 (take 2 (drop LENGTH_AT bs));
  control = slice_index bs CONTROL_AT;
  status = slice_index bs STATUS_AT;
  activate = slice_index bs ACTIVATE_AT;
  pdi = slice_index bs PDI_AT;
}

-- ---- what its fields say

-- bit 0 of its activate byte
abbrev pub is_enabled : SyncMan → Bool
is_enabled s = bit_at s.activate 0 == 1

-- bits 0 and 1 of its control byte are 00
abbrev pub is_buffered : SyncMan → Bool
is_buffered s = s.control % 4 == 0

-- bits 0 and 1 of its control byte are 10
abbrev pub is_mailbox : SyncMan → Bool
is_mailbox s = s.control % 4 == 2

-- bits 2 and 3 of its control byte are 00
abbrev pub master_reads : SyncMan → Bool
master_reads s = s.control / 4 % 4 == 0

-- bits 2 and 3 of its control byte are 01
abbrev pub master_writes : SyncMan → Bool
master_writes s = s.control / 4 % 4 == 1

-- bit 3 of its status byte: its mailbox is full
abbrev pub is_full : SyncMan → Bool
is_full s = bit_at s.status 3 == 1

-- bit 1 of its activate byte, which the master changes to have the last mail of the mailbox once more
abbrev pub repeat_asked : SyncMan → ℕ
repeat_asked s = bit_at s.activate 1

-- does it ask so, and bit 1 of its PDI byte does not tell yet that this was done
abbrev pub asks_again : SyncMan → Bool
asks_again s = not (repeat_asked s == bit_at s.pdi 1)

-- ---- the area that it guards

-- a mailbox has 16 to 1,486 bytes, as many as a datagram has at the most; a buffered area at least one
abbrev pub has_area_length : SyncMan → Bool
has_area_length s =
    if is_mailbox s then nat_le 16 s.length && nat_le s.length 1486 else nat_le 1 s.length

-- the area lies in process memory
abbrev pub is_in_process_memory : SyncMan → Bool
is_in_process_memory s = nat_le PROCESS_MEMORY s.start && nat_le (s.start + s.length) MEMORY_SIZE

-- does the sync manager guard an area
unfoldable pub is_active : SyncMan → Bool
is_active s =
    is_enabled s && (is_buffered s || is_mailbox s) && (master_reads s || master_writes s)
    && has_area_length s && is_in_process_memory s

-- does it guard outputs: a buffered area that the master writes
abbrev pub guards_outputs : SyncMan → Bool
guards_outputs s = is_active s && is_buffered s && master_writes s

-- does it guard inputs: a buffered area that the master reads
abbrev pub guards_inputs : SyncMan → Bool
guards_inputs s = is_active s && is_buffered s && master_reads s

-- ---- where its status byte and its PDI byte stand

-- the address of the status byte of the sync manager with a number
abbrev pub status_address : ℕ → ℕ
status_address i = SYNC_MANAGER_BASE + SYNC_MANAGER_SIZE * i + SYNC_MANAGER_STATUS

-- that of its PDI byte
abbrev pub pdi_address : ℕ → ℕ
pdi_address i = SYNC_MANAGER_BASE + SYNC_MANAGER_SIZE * i + SYNC_MANAGER_PDI
