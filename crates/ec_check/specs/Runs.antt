-- What an FMMU maps is two runs of bits, and all that is asked of it is a matter of where they begin and end.
use Rattle.std.specs.Prelude.{ℕ, ◌+◌, ◌*◌, ◌<◌, ◌≤◌, Bool, ◌==◌, ◌&&◌, nat_le, nat_lt}
use Rattle.ec_regs.specs.Pairs.{has_one_type, reads, first_logical, first_physical, pair_count}
use Rattle.ec_regs.specs.declared.fmmu.Fmmu.{Fmmu}
use Rattle.ec_regs.specs.declared.sync_man.SyncMan.{SyncMan}
use Rattle.ec_regs.specs.declared.registers.TheConstants.{MEMORY_SIZE, LOGICAL_BITS, ANSWER_MAILBOX_STATUS}
use Rattle.ec_check.specs.Rules.{suits}

-- the number is one of `count` from the first one on
pub record IsInRun (first count n : ℕ) : Type 0 where
  pub from : first ≤ n
  pub to : n < first + count

-- does the FMMU read or write and not both, does it map a bit, and does neither run end behind the last bit
abbrev pub is_good : Fmmu → Bool
is_good f =
    has_one_type f
    && nat_le 1 (pair_count f)
    && nat_le (first_logical f + pair_count f) LOGICAL_BITS
    && nat_le (first_physical f + pair_count f) (8 * MEMORY_SIZE)

-- does the sync manager guard an area of the FMMU's kind that holds the FMMU's first byte
abbrev pub holds_first_byte : SyncMan → Fmmu → Bool
holds_first_byte s f = suits s f && nat_le s.start f.physical && nat_lt f.physical (s.start + s.length)

-- does the FMMU read, from the byte on that tells of waiting mail
abbrev pub begins_at_mail_status : Fmmu → Bool
begins_at_mail_status f = reads f && f.physical == ANSWER_MAILBOX_STATUS
