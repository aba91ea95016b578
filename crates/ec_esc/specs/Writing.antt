-- What a write leaves beside the bytes that it wrote: the status of sync managers that it switched on or
-- off, and what the application is shown (IEC 61158-4-12, sync manager, buffered mode).
use Rattle.std.specs.Prelude.{ℕ, ◌+◌, ◌-◌, ◌*◌, Bool, false, ◌==◌, ◌&&◌, ◌||◌, not, if◌then◌else◌}
use Rattle.std.specs.Prelude.{Option, None, Some, List, ◌∷◌, length, map}
use Rattle.std.specs.Prelude.{slice_index, slice_set, bit_and, bit_or}
use Rattle.std.specs.List.{range_with_len}
use Rattle.ec_regs.specs.declared.sync_man.SyncMan.{SyncMan}
use Rattle.ec_regs.specs.declared.registers.TheConstants.{PROCESS_MEMORY}
use Rattle.ec_regs.specs.SyncMan.{is_active, is_buffered, master_writes}
use Rattle.ec_areas.specs.Areas.{guards}
use Rattle.ec_areas.specs.Logical.{names, write_map}
use Rattle.ec_areas.specs.Records.{fmmus_of, sync_manager_at, sync_managers_of}
use Rattle.ec_areas.specs.Ranges.{is_in_sync_manager, sync_manager_number, sync_manager_offset}
use Rattle.ec_regs.specs.SyncMan.{status_address}
use Rattle.ec_regs.specs.declared.registers.TheConstants.{SYNC_MANAGER_STATUS}
use Rattle.ec_regs.specs.declared.sync_man.TheConstants.{MAILBOX_FULL}

-- ---- status bytes

-- was a sync manager switched on or off: it is active in one of two memories alone
abbrev pub is_switched : List ℕ → List ℕ → ℕ → Bool
is_switched before after i =
    if is_active (sync_manager_at before i) then not (is_active (sync_manager_at after i))
    else is_active (sync_manager_at after i)

-- the byte at an address of the memory after a write: the status of a sync manager that was switched on or
-- off is 0
abbrev pub settled_byte : List ℕ → List ℕ → ℕ → ℕ
settled_byte before after address =
    if is_in_sync_manager address && sync_manager_offset address == SYNC_MANAGER_STATUS
    && is_switched before after (sync_manager_number address)
    then 0 else slice_index after address

-- the memory after a write, once those statuses are 0
unfoldable pub settled : List ℕ → List ℕ → List ℕ
settled before after = map (settled_byte before after) (range_with_len 0 (length after))

-- the memory once the mailbox of a sync manager, if any, has been filled: bit 3 of its status becomes 1
abbrev pub with_filled : Option ℕ → List ℕ → List ℕ
with_filled None memory = memory
with_filled (Some i) memory =
    slice_set memory (status_address i) (bit_or (slice_index memory (status_address i)) MAILBOX_FULL)

-- the memory once it has been read out: bit 3 of its status becomes 0
abbrev pub with_emptied : Option ℕ → List ℕ → List ℕ
with_emptied None memory = memory
with_emptied (Some i) memory =
    slice_set memory (status_address i) (bit_and (slice_index memory (status_address i)) (255 - MAILBOX_FULL))

-- ---- shown bytes

-- is an area shown anew: the write made it active; or it is buffered, the master writes it, and its last
-- byte was written
abbrev pub hands_over : (ℕ → Bool) → SyncMan → SyncMan → Bool
hands_over is_written before after =
    is_active after
    && (not (is_active before)
    || (is_buffered after && master_writes after && is_written (after.start + after.length - 1)))

-- does a write of n bytes at a logical byte reach the byte at an address, through the FMMUs of a memory
abbrev pub reaches_byte : List ℕ → ℕ → ℕ → ℕ → Bool
reaches_byte memory logical n byte =
    names (λ b. write_map (sync_managers_of memory) (fmmus_of memory) (8 * logical) (8 * n) (8 * byte + b)) 8

-- does the byte at an address lie in such an area; the sync managers as they were, and as they are now
unfoldable pub is_shown_anew : (ℕ → Bool) → List SyncMan → List SyncMan → ℕ → Bool
is_shown_anew is_written (before ∷ befores) (after ∷ afters) address =
    (hands_over is_written before after && guards after address)
    || is_shown_anew is_written befores afters address
is_shown_anew is_written _ _ address = false

-- the shown byte at an address of process memory: where it is shown anew the memory's, else as it was
abbrev pub shown_byte : (ℕ → Bool) → List SyncMan → List SyncMan → List ℕ → List ℕ → ℕ → ℕ
shown_byte is_written before after memory shown k =
    if is_shown_anew is_written before after (PROCESS_MEMORY + k) then slice_index memory (PROCESS_MEMORY + k)
    else slice_index shown k

-- the shown bytes after a write
unfoldable pub shown_after : (ℕ → Bool) → List SyncMan → List SyncMan → List ℕ → List ℕ → List ℕ
shown_after is_written before after memory shown =
    map (shown_byte is_written before after memory shown) (range_with_len 0 (length shown))
