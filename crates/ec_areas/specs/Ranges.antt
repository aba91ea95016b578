-- A physical command reaches a range of addresses, as far as the areas of the sync managers let it
-- (IEC 61158-4-12, physical memory access, sync manager and mailbox).
use Rattle.std.specs.Prelude.{ℕ, ◌+◌, ◌-◌, ◌*◌, ◌/◌, ◌%◌, Bool, ◌==◌, ◌&&◌, ◌||◌, not, nat_le, nat_lt}
use Rattle.std.specs.Prelude.{if◌then◌else◌, Option, None, List, [], ◌∷◌, length, ◌≡◌, ◌≤◌, true}
use Rattle.std.specs.Prelude.{slice_index}
use Rattle.std.specs.List.{list_any, position, filter, range_with_len}
use Rattle.std.specs.Option.{is_some}
use Rattle.ec_regs.specs.AddressRange.{within, share_a_byte}
use Rattle.ec_regs.specs.declared.address_range.AddressRange.{AddressRange}
use Rattle.ec_regs.specs.declared.sync_man.SyncMan.{SyncMan}
use Rattle.ec_regs.specs.declared.registers.TheConstants.{STATION_ADDRESS, AL_CONTROL, FMMU_BASE, FMMU_SIZE}
use Rattle.ec_regs.specs.declared.registers.TheConstants.{FMMU_COUNT, SYNC_MANAGER_BASE, SYNC_MANAGER_SIZE}
use Rattle.ec_regs.specs.declared.registers.TheConstants.{SYNC_MANAGER_COUNT, SYNC_MANAGER_STATUS}
use Rattle.ec_regs.specs.declared.registers.TheConstants.{SYNC_MANAGER_ACTIVATE, PROCESS_MEMORY}
use Rattle.ec_regs.specs.declared.registers.TheConstants.{PROCESS_MEMORY_SIZE, MEMORY_SIZE}
use Rattle.ec_regs.specs.declared.registers.TheConstants.{CONTROLLER_TYPE, DL_CONTROL, EVENT_MASK}
use Rattle.ec_regs.specs.declared.registers.TheConstants.{ERROR_COUNTERS, ERROR_COUNTERS_SIZE}
use Rattle.ec_regs.specs.declared.registers.TheConstants.{WATCHDOG_DIVIDER, PDI_WATCHDOG}
use Rattle.ec_regs.specs.declared.registers.TheConstants.{PROCESS_DATA_WATCHDOG, SII_BASE, SII_SIZE}
use Rattle.ec_regs.specs.SyncMan.{is_active, is_mailbox, is_full, master_reads, master_writes, is_buffered}
use Rattle.ec_areas.specs.Records.{sync_manager_at, sync_managers_of}

-- are there bytes in the range, and do all of them lie in the memory
abbrev pub is_range : ℕ → ℕ → Bool
is_range from n = nat_le 1 n && nat_le (from + n) MEMORY_SIZE

-- ---- the areas that a range meets

-- does the range share a byte with the area that the record tells
abbrev pub overlaps : SyncMan → ℕ → ℕ → Bool
overlaps s from n = share_a_byte s.start s.length from n

-- does the range share a byte with the area of an active sync manager
unfoldable pub meets : SyncMan → ℕ → ℕ → Bool
meets s from n = is_active s && share_a_byte s.start s.length from n

-- does it share one with an area that is kept from reads: a mailbox, or an area that the master writes
abbrev pub meets_hidden : List SyncMan → ℕ → ℕ → Bool
meets_hidden managers from n = list_any (λ s. meets s from n && (is_mailbox s || master_writes s)) managers

-- does it share one with an area that is kept from writes: a mailbox, or an area that the master reads
abbrev pub meets_locked : List SyncMan → ℕ → ℕ → Bool
meets_locked managers from n = list_any (λ s. meets s from n && (is_mailbox s || master_reads s)) managers

-- does it meet one area alone
abbrev pub meets_one : List SyncMan → ℕ → ℕ → Bool
meets_one managers from n = length (filter (λ s. meets s from n) managers) == 1

-- the range has a byte and lies whole in the area of the sync manager, which is active and buffered
pub record LiesBuffered (s : SyncMan) (from n : ℕ) : Type 0 where
  pub some : 1 ≤ n
  pub active : is_active s ≡ true
  pub buffered : is_buffered s ≡ true
  pub starts : s.start ≤ from
  pub ends : from + n ≤ s.start + s.length

-- ---- mailboxes, which are read and written whole

-- is the range the whole area of the sync manager
abbrev pub is_area : SyncMan → ℕ → ℕ → Bool
is_area s from n = is_active s && s.start == from && s.length == n

-- does a read of the range take the mail of this sync manager: its mailbox is full, and the master reads it
unfoldable pub gives_mail : ℕ → ℕ → SyncMan → Bool
gives_mail from n s = is_area s from n && is_mailbox s && master_reads s && is_full s

-- does a write of the range put mail there: its mailbox is empty, and the master writes it
unfoldable pub takes_mail : ℕ → ℕ → SyncMan → Bool
takes_mail from n s = is_area s from n && is_mailbox s && master_writes s && not (is_full s)

-- the number of the sync manager whose mailbox a read of the range empties
unfoldable pub emptied_by : List SyncMan → ℕ → ℕ → Option ℕ
emptied_by managers from n = if meets_one managers from n then position (gives_mail from n) managers else None

-- the number of the sync manager whose mailbox a write of the range fills
unfoldable pub filled_by : List SyncMan → ℕ → ℕ → Option ℕ
filled_by managers from n = if meets_one managers from n then position (takes_mail from n) managers else None

-- ---- registers that the master may write

-- is an address one of the eight bytes of a sync manager's record, and which of them
abbrev pub is_in_sync_manager : ℕ → Bool
is_in_sync_manager address = within SYNC_MANAGER_BASE (SYNC_MANAGER_SIZE * SYNC_MANAGER_COUNT) address

abbrev pub sync_manager_number : ℕ → ℕ
sync_manager_number address = (address - SYNC_MANAGER_BASE) / SYNC_MANAGER_SIZE

abbrev pub sync_manager_offset : ℕ → ℕ
sync_manager_offset address = (address - SYNC_MANAGER_BASE) % SYNC_MANAGER_SIZE

-- start, length and control may be written while the sync manager is not active
abbrev pub is_writable_field : List ℕ → ℕ → Bool
is_writable_field memory address =
    sync_manager_offset address == SYNC_MANAGER_ACTIVATE
    || (nat_lt (sync_manager_offset address) SYNC_MANAGER_STATUS
    && not (is_active (sync_manager_at memory (sync_manager_number address))))

-- what the master may always write: the station address, AL control, the FMMUs, and process memory
abbrev pub writable_ranges : List AddressRange
writable_ranges =
    record { first = STATION_ADDRESS; count = 2 }
    ∷ record { first = AL_CONTROL; count = 2 }
    ∷ record { first = FMMU_BASE; count = FMMU_SIZE * FMMU_COUNT }
    ∷ record { first = PROCESS_MEMORY; count = PROCESS_MEMORY_SIZE }
    ∷ []

-- has the controller a slave information interface: it tells which kind of chip it is, in a register that
-- the master does not write
abbrev pub has_sii : List ℕ → Bool
has_sii memory = not (slice_index memory CONTROLLER_TYPE == 0)

-- is an address one of the registers of that interface
abbrev pub is_in_sii : ℕ → Bool
is_in_sii address = within SII_BASE SII_SIZE address

-- what the master may write beside of a controller that has one: DL control, the mask of its events, the
-- counters of errors at its ports, the divider and both times of its watchdogs, and the registers of that
-- interface
abbrev pub device_ranges : List AddressRange
device_ranges =
    record { first = DL_CONTROL; count = 4 }
    ∷ record { first = EVENT_MASK; count = 2 }
    ∷ record { first = ERROR_COUNTERS; count = ERROR_COUNTERS_SIZE }
    ∷ record { first = WATCHDOG_DIVIDER; count = 2 }
    ∷ record { first = PDI_WATCHDOG; count = 2 }
    ∷ record { first = PROCESS_DATA_WATCHDOG; count = 2 }
    ∷ record { first = SII_BASE; count = SII_SIZE }
    ∷ []

abbrev pub is_of_device : ℕ → Bool
is_of_device address = list_any (λ (r : AddressRange). within r.first r.count address) device_ranges

-- does a byte of the memory take what a physical command writes: it stands in a range that is always
-- written, in one of a controller that has a slave information interface, or in a field of a sync manager
-- that may be written
unfoldable pub takes_writes : List ℕ → ℕ → Bool
takes_writes memory address =
    list_any (λ (r : AddressRange). within r.first r.count address) writable_ranges
    || (is_of_device address && has_sii memory)
    || (is_in_sync_manager address && is_writable_field memory address)

-- these sync managers are those of a memory, and so is whether there is a slave information interface
pub record IsOnArrival (memory : List ℕ) (managers : List SyncMan) (sii : Bool) : Type 0 where
  pub managers_are : managers ≡ sync_managers_of memory
  pub sii_is : sii ≡ has_sii memory

-- is a test true of one of the n addresses from one on
unfoldable pub some_address : (ℕ → Bool) → ℕ → ℕ → Bool
some_address test from n = list_any test (range_with_len from n)

-- ---- what is served, by the records on arrival

-- a read: of bytes that no area keeps from reads, or of a whole mailbox
abbrev pub serves_physical_read : List SyncMan → ℕ → ℕ → Bool
serves_physical_read managers from n =
    is_range from n && (not (meets_hidden managers from n) || is_some (emptied_by managers from n))

-- a write: of bytes that no area keeps from writes and of which one takes it, or of a whole mailbox
abbrev pub serves_physical_write : List ℕ → List SyncMan → ℕ → ℕ → Bool
serves_physical_write memory managers from n =
    is_range from n
    && ((not (meets_locked managers from n) && some_address (takes_writes memory) from n)
    || is_some (filled_by managers from n))
