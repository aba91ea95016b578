-- An active sync manager guards an area; what it keeps from reads and from writes through FMMUs
-- (IEC 61158-4-12, sync manager).
use Rattle.std.specs.Prelude.{ℕ, Bool, ◌&&◌, ◌||◌, not, nat_le, nat_lt, List}
use Rattle.std.specs.List.{list_any}
use Rattle.ec_regs.specs.AddressRange.{within}
use Rattle.ec_regs.specs.SyncMan.{is_mailbox, master_reads, master_writes, is_active}
use Rattle.ec_regs.specs.declared.sync_man.SyncMan.{SyncMan}
use Rattle.ec_regs.specs.declared.registers.TheConstants.{PROCESS_MEMORY, MEMORY_SIZE}

-- is an address one of those of the area that the record tells
abbrev pub holds : SyncMan → ℕ → Bool
holds s address = within s.start s.length address

-- is the byte at an address in the area of an active sync manager
unfoldable pub guards : SyncMan → ℕ → Bool
guards s address = is_active s && holds s address

-- ---- what FMMUs may reach

-- is the byte kept from reads: in a mailbox, or in an area that the master writes
unfoldable pub hides : SyncMan → ℕ → Bool
hides s address = guards s address && (is_mailbox s || master_writes s)

-- is the byte kept from writes: in a mailbox, or in an area that the master reads
unfoldable pub locks : SyncMan → ℕ → Bool
locks s address = guards s address && (is_mailbox s || master_reads s)

-- is the byte at an address kept from reads by one of these sync managers
abbrev pub is_hidden : List SyncMan → ℕ → Bool
is_hidden managers address = list_any (λ s. hides s address) managers

-- is it kept from writes by one of them
abbrev pub is_locked : List SyncMan → ℕ → Bool
is_locked managers address = list_any (λ s. locks s address) managers

-- may an FMMU read the byte at an address: it is in the memory, and no area hides it
unfoldable pub is_readable : List SyncMan → ℕ → Bool
is_readable managers address = nat_lt address MEMORY_SIZE && not (is_hidden managers address)

-- may an FMMU write the byte at an address: it is in process memory, and no area locks it
unfoldable pub is_writable : List SyncMan → ℕ → Bool
is_writable managers address =
    nat_le PROCESS_MEMORY address && nat_lt address MEMORY_SIZE && not (is_locked managers address)
