-- The laws that crates above cite: on the records in a memory, the areas of sync managers, ranges and
-- mailboxes, and where logical reads and writes go.
use Rattle.std.proofs.Common.{◌≡◌, ◌↔◌, ℕ, ◌+◌, ◌*◌, ◌/◌, ◌<◌, true, false, List, length, take, get_or, refl, arith, ◌≤◌}
use Rattle.std.proofs.Common.{Option, None, Some}
use Rattle.std.proofs.Common.{◌&&◌, ◌||◌}
use Rattle.std.specs.List.{Any, list_any}
use Rattle.ec_regs.specs.AddressRange.{within}
use Rattle.ec_regs.specs.declared.address_range.AddressRange.{AddressRange}
use Rattle.ec_areas.specs.Ranges.{writable_ranges, is_in_sync_manager, is_writable_field}
use Rattle.std.specs.Option.{IsSome}
use Rattle.ec_regs.specs.declared.registers.TheConstants.{FMMU_COUNT, SYNC_MANAGER_COUNT}
use Rattle.ec_regs.specs.declared.fmmu.Fmmu.{Fmmu}
use Rattle.ec_regs.specs.declared.sync_man.SyncMan.{SyncMan}
use Rattle.ec_regs.specs.SyncMan.{is_active}
use Rattle.ec_regs.specs.declared.registers.TheConstants.{PROCESS_MEMORY, MEMORY_SIZE}
use Rattle.ec_areas.specs.Records.{sync_manager_at, sync_managers_of, fmmu_at, fmmus_of, SameRegisters}
use Rattle.ec_areas.specs.Areas.{guards, is_locked, is_writable}
use Rattle.ec_areas.specs.Ranges.{meets_locked, emptied_by, filled_by, serves_physical_read, LiesBuffered}
use Rattle.ec_areas.specs.Ranges.{takes_writes, serves_physical_write, some_address, has_sii, is_in_sii}
use Rattle.ec_areas.specs.Logical.{names, IsReadable, read_map, NamesPairs, IsWritable, write_map, target_map}
use Rattle.ec_areas.specs.Logical.{reads_some, writes_some, IsPairWithin}
use Rattle.ec_areas.specs.Apart.{are_apart}
use Rattle.ec_areas.specs.Extent.{maps_some, mapped_count}
use Rattle.ec_areas.specs.Hull.{read_hull_of, write_hull_of, misses}
use Rattle.ec_areas.proofs.RangeLemmas as ranges
use Rattle.ec_areas.proofs.RecordLemmas as records
use Rattle.ec_areas.proofs.AreasMetLemmas as met
use Rattle.ec_areas.proofs.MailboxLemmas as mailboxes
use Rattle.ec_areas.proofs.NamesLemmas as maps
use Rattle.ec_areas.proofs.LogicalLemmas as reading
use Rattle.ec_areas.proofs.WriteLemmas as writing
use Rattle.ec_areas.proofs.ApartLemmas as apart
use Rattle.ec_areas.proofs.NamedLemmas as named
use Rattle.ec_areas.proofs.HullLemmas as hulls
use Rattle.ec_areas.proofs.ExtentLemmas as extents

-- ---- the records in a memory

-- sync manager number i of a memory is the one that stands at its place
pub get_or-sync_managers_of : (memory : List ℕ) (d : SyncMan) (i : ℕ) → i < SYNC_MANAGER_COUNT
    → get_or (sync_managers_of memory) i d ≡ sync_manager_at memory i
get_or-sync_managers_of = ranges.get_or-sync_managers_of

-- FMMU number i of a memory is the one that stands at its place
pub get_or-fmmus_of : (memory : List ℕ) (d : Fmmu) (i : ℕ) → i < FMMU_COUNT
    → get_or (fmmus_of memory) i d ≡ fmmu_at memory i
get_or-fmmus_of = ranges.get_or-fmmus_of

-- a memory has eight sync managers
pub length-sync_managers_of : (memory : List ℕ) → length (sync_managers_of memory) ≡ SYNC_MANAGER_COUNT
unfolding sync_managers_of
length-sync_managers_of memory = refl

-- a memory has eight FMMUs
pub length-fmmus_of : (memory : List ℕ) → length (fmmus_of memory) ≡ FMMU_COUNT
unfolding fmmus_of
length-fmmus_of memory = refl

-- memories with the same registers have the same sync manager under each number
pub sync_manager_same : (before after : List ℕ) (i : ℕ) → SameRegisters before after → i < SYNC_MANAGER_COUNT
    → sync_manager_at after i ≡ sync_manager_at before i
sync_manager_same = records.sync_manager_same

-- memories with the same registers have the same sync managers
pub sync_managers_same : (before after : List ℕ) → SameRegisters before after → sync_managers_of after
    ≡ sync_managers_of before
sync_managers_same = records.sync_managers_same

-- memories with the same registers have the same FMMUs
pub fmmus_same : (before after : List ℕ) → SameRegisters before after → fmmus_of after ≡ fmmus_of before
fmmus_same = records.fmmus_same

-- in memories with the same registers the same bytes take physical writes
pub takes_writes_same : (before after : List ℕ) → SameRegisters before after → takes_writes after
    ≡ takes_writes before
takes_writes_same = met.takes_writes_same

-- process memory takes physical writes, whatever the registers are
pub takes_process : (memory : List ℕ) (a : ℕ) → PROCESS_MEMORY ≤ a → a < MEMORY_SIZE
    → takes_writes memory a ≡ true
takes_process = met.takes_process

-- so does a range of it
pub some_process : (memory : List ℕ) (from n : ℕ) → 1 ≤ n → PROCESS_MEMORY ≤ from → from + n ≤ MEMORY_SIZE
    → some_address (takes_writes memory) from n ≡ true
some_process = met.some_process

-- without a slave information interface a byte takes writes where it stands in a range that always takes
-- them, or in a field of a sync manager that may be written
pub takes_as_before : (memory : List ℕ) (a : ℕ) → has_sii memory ≡ false → takes_writes memory a
    ≡ (list_any (λ (r : AddressRange). within r.first r.count a) writable_ranges
    || (is_in_sync_manager a && is_writable_field memory a))
takes_as_before = met.takes_as_before

-- without a slave information interface its registers take none
pub takes_without_sii : (memory : List ℕ) (a : ℕ) → has_sii memory ≡ false → is_in_sii a ≡ true
    → takes_writes memory a ≡ false
takes_without_sii = met.takes_without_sii

-- with one they take them
pub takes_with_sii : (memory : List ℕ) (a : ℕ) → has_sii memory ≡ true → is_in_sii a ≡ true
    → takes_writes memory a ≡ true
takes_with_sii = met.takes_with_sii

-- ---- areas

-- the area of an active sync manager lies in process memory
pub active_place : (s : SyncMan) → is_active s ≡ true
    → (PROCESS_MEMORY ≤ s.start) × (s.start + s.length ≤ MEMORY_SIZE)
active_place = met.active_place

-- a byte that a sync manager guards lies in its area, and the sync manager is active
pub guards_parts : (s : SyncMan) (a : ℕ) → guards s a ≡ true → (is_active s
    ≡ true) × (s.start ≤ a) × (a < s.start + s.length)
guards_parts = met.guards_parts

-- an active sync manager guards each byte of its area
pub guards_from : (s : SyncMan) (a : ℕ) → is_active s ≡ true → s.start ≤ a → a < s.start + s.length
    → guards s a ≡ true
guards_from = met.guards_from

-- ---- ranges

-- a read of registers is served
pub reads_registers : (managers : List SyncMan) (from n : ℕ) → 1 ≤ n → from + n ≤ PROCESS_MEMORY
    → serves_physical_read managers from n ≡ true
reads_registers = met.reads_registers

-- a read of registers empties no mailbox
pub emptied_registers : (managers : List SyncMan) (from n : ℕ) → 1 ≤ n → from + n ≤ PROCESS_MEMORY
    → emptied_by managers from n ≡ None
emptied_registers = met.emptied_registers

-- a write of registers meets no locked area
pub locked_registers : (managers : List SyncMan) (from n : ℕ) → from + n ≤ PROCESS_MEMORY
    → meets_locked managers from n ≡ false
locked_registers = met.locked_registers

-- and fills no mailbox
pub filled_registers : (managers : List SyncMan) (from n : ℕ) → from + n ≤ PROCESS_MEMORY
    → filled_by managers from n ≡ None
filled_registers = met.filled_before

-- a range in a buffered area lies in process memory
pub buffered_place : (s : SyncMan) (from n : ℕ) → LiesBuffered s from n
    → (PROCESS_MEMORY ≤ from) × (from + n ≤ MEMORY_SIZE)
buffered_place s from n lies =
    let place = active_place s lies.active in
    let starts = lies.starts in
    let ends = lies.ends in
    (omega (arith, place.0), omega (arith, place.1))

-- a read of a range in a buffered area empties no mailbox
pub emptied_buffered : (managers : List SyncMan) (from n : ℕ) → Any (λ s. LiesBuffered s from n) managers
    → emptied_by managers from n ≡ None
emptied_buffered = met.emptied_buffered

-- a write of a range in a buffered area fills no mailbox
pub filled_buffered : (managers : List SyncMan) (from n : ℕ) → Any (λ s. LiesBuffered s from n) managers
    → filled_by managers from n ≡ None
filled_buffered = met.filled_buffered

-- a range that meets no locked area has no byte that is locked
pub unlocked_in_range : (managers : List SyncMan) (from n a : ℕ) → meets_locked managers from n ≡ false
    → from ≤ a → a < from + n
    → is_locked managers a ≡ false
unlocked_in_range = met.unlocked_in_range

-- the mailbox that a read empties is that of one of the sync managers
pub emptied_inside : (managers : List SyncMan) (from n i : ℕ) → emptied_by managers from n ≡ Some i
    → i < length managers
emptied_inside managers from n i emptied = (mailboxes.emptied_facts managers from n i emptied).inside

-- the mailbox that a write fills is that of one of the sync managers
pub filled_inside : (managers : List SyncMan) (from n i : ℕ) → filled_by managers from n ≡ Some i
    → i < length managers
filled_inside managers from n i filled = (mailboxes.filled_facts managers from n i filled).inside

-- a write that is served empties no mailbox
pub write_empties_none : (memory : List ℕ) (managers : List SyncMan) (from n : ℕ)
    → serves_physical_write memory managers from n ≡ true
    → emptied_by managers from n ≡ None
write_empties_none = mailboxes.write_empties_none

-- ---- is one of the first n bits mapped

-- where none of the first bits has a place none is mapped
pub names_nowhere : (f : ℕ → Option ℕ) (n : ℕ) → ((i : ℕ) → i < n → f i ≡ None) → names f n ≡ false
names_nowhere = maps.names_nowhere

-- where one of the first bits has a place one is mapped
pub names_at : (f : ℕ → Option ℕ) (n i : ℕ) → i < n → IsSome (f i) → names f n ≡ true
names_at = maps.names_at

-- where none of the first bits is mapped none has a place
pub names_none : (f : ℕ → Option ℕ) (n i : ℕ) → names f n ≡ false → i < n → f i ≡ None
names_none = maps.names_none

-- ---- where logical reads and writes go

-- a read names a bit of a range exactly where a readable pair has its logical bit there
pub reads_some_pair : (managers : List SyncMan) (fmmus : List Fmmu) (from n : ℕ)
    → (reads_some managers fmmus from n ≡ true)
    ↔ ((l p : ℕ) × IsPairWithin (IsReadable managers fmmus) from n l p)
reads_some_pair = named.reads_some_pair

-- a write names one exactly where a writable pair has
pub writes_some_pair : (managers : List SyncMan) (fmmus : List Fmmu) (from n : ℕ)
    → (writes_some managers fmmus from n ≡ true)
    ↔ ((l p : ℕ) × IsPairWithin (IsWritable managers fmmus) from n l p)
writes_some_pair = named.writes_some_pair

-- a read takes a logical bit from a bit that is paired with it for reading, if there is one
pub NamesPairs-read_map : (managers : List SyncMan) (fmmus : List Fmmu)
    → NamesPairs (read_map managers fmmus) (IsReadable managers fmmus)
NamesPairs-read_map = reading.NamesPairs-read_map

-- a write puts a logical bit into a bit that is paired with it for writing, if there is one
pub NamesPairs-target_map : (managers : List SyncMan) (fmmus : List Fmmu)
    → NamesPairs (target_map managers fmmus) (IsWritable managers fmmus)
NamesPairs-target_map = writing.NamesPairs-target_map

-- a bit takes of a write the number of a bit that is paired with it for writing, if the write has one
pub NamesPairs-write_map : (managers : List SyncMan) (fmmus : List Fmmu) (from n : ℕ)
    → NamesPairs (write_map managers fmmus from n) (λ p i. (i < n) × IsWritable managers fmmus (from + i) p)
NamesPairs-write_map = writing.NamesPairs-write_map

-- where no bit of a write goes anywhere no bit takes one
pub write_map_none : (managers : List SyncMan) (fmmus : List Fmmu) (from n p : ℕ)
    → names (λ i. target_map managers fmmus (from + i)) n ≡ false → write_map managers fmmus from n p ≡ None
write_map_none = writing.write_map_none

-- a byte that a logical write may change lies in process memory, and no area locks it
pub writable_parts : (managers : List SyncMan) (address : ℕ) → is_writable managers address ≡ true
    → (PROCESS_MEMORY ≤ address) × (address < MEMORY_SIZE) × (is_locked managers address ≡ false)
writable_parts = writing.writable_parts

-- a bit of a register takes nothing of a logical write
pub write_map_register : (managers : List SyncMan) (fmmus : List Fmmu) (from n p : ℕ) → p / 8 < PROCESS_MEMORY
    → write_map managers fmmus from n p ≡ None
write_map_register = writing.write_map_register

-- where FMMUs for reading are apart from those for writing, a bit that is read is not written
pub unwritten : (managers : List SyncMan) (fmmus : List Fmmu) (l p from n : ℕ) → are_apart fmmus ≡ true
    → read_map managers fmmus l ≡ Some p → write_map managers fmmus from n p ≡ None
unwritten = apart.unwritten

-- no read of bits outside of the hull of some FMMUs is served
pub reads_none : (managers : List SyncMan) (fmmus : List Fmmu) (from n : ℕ)
    → misses (read_hull_of fmmus) from n ≡ true → reads_some managers fmmus from n ≡ false
reads_none = hulls.reads_none

-- and no write
pub writes_none : (managers : List SyncMan) (fmmus : List Fmmu) (from n : ℕ)
    → misses (write_hull_of fmmus) from n ≡ true → writes_some managers fmmus from n ≡ false
writes_none = hulls.writes_none

-- ---- FMMUs up to the last that maps a bit

-- there are no more of them than FMMUs
pub mapped_count-le : (fmmus : List Fmmu) → mapped_count fmmus ≤ length fmmus
mapped_count-le fmmus = extents.count_to_last-le maps_some fmmus

-- with them alone a bit is read from the same place
pub read_map_mapped : (managers : List SyncMan) (fmmus : List Fmmu) (l : ℕ)
    → read_map managers (take (mapped_count fmmus) fmmus) l ≡ read_map managers fmmus l
read_map_mapped = extents.read_map_mapped

-- a physical bit takes the same
pub write_map_mapped : (managers : List SyncMan) (fmmus : List Fmmu) (from n p : ℕ)
    → write_map managers (take (mapped_count fmmus) fmmus) from n p ≡ write_map managers fmmus from n p
write_map_mapped = extents.write_map_mapped

-- a read is served alike
pub reads_some_mapped : (managers : List SyncMan) (fmmus : List Fmmu) (from n : ℕ)
    → reads_some managers (take (mapped_count fmmus) fmmus) from n ≡ reads_some managers fmmus from n
reads_some_mapped = extents.reads_some_mapped

-- a write is served alike
pub writes_some_mapped : (managers : List SyncMan) (fmmus : List Fmmu) (from n : ℕ)
    → writes_some managers (take (mapped_count fmmus) fmmus) from n ≡ writes_some managers fmmus from n
writes_some_mapped = extents.writes_some_mapped

-- and a byte is written alike
pub written_byte_mapped : (managers : List SyncMan) (fmmus : List Fmmu) (from n byte : ℕ)
    → names (λ b. write_map managers (take (mapped_count fmmus) fmmus) from n (8 * byte + b)) 8
    ≡ names (λ b. write_map managers fmmus from n (8 * byte + b)) 8
written_byte_mapped = extents.written_byte_mapped
