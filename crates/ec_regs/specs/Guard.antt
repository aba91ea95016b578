-- What the record of a sync manager says of its area: whether there is one, and whether the area is kept from
-- reads, kept from writes, or holds outputs (IEC 61158-4-12, sync manager).
use Rattle.std.specs.Prelude.{Bool, ◌&&◌, ◌||◌}
use Rattle.ec_regs.specs.declared.guard.Guard.{Guard}
use Rattle.ec_regs.specs.declared.sync_man.SyncMan.{SyncMan}
use Rattle.ec_regs.specs.SyncMan.{is_active, is_mailbox, master_reads, master_writes, guards_outputs}

-- it guards an area that is kept from reads: a mailbox, or an area that the master writes
abbrev pub keeps_reads_off : SyncMan → Bool
keeps_reads_off s = is_active s && (is_mailbox s || master_writes s)

-- it guards one that is kept from writes: a mailbox, or an area that the master reads
abbrev pub keeps_writes_off : SyncMan → Bool
keeps_writes_off s = is_active s && (is_mailbox s || master_reads s)

-- all of it
abbrev pub guard_of : SyncMan → Guard
guard_of s = record {
  is_active = is_active s;
  keeps_reads_off = keeps_reads_off s;
  keeps_writes_off = keeps_writes_off s;
  guards_outputs = guards_outputs s;
}
