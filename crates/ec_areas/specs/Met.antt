-- Data of a logical command and an FMMU share a run of bits (IEC 61158-4-12, FMMU).
use Rattle.std.specs.Prelude.{ℕ, ◌+◌, ◌/◌, ◌^◌, ◌<◌, ◌≤◌, nat_lt, if◌then◌else◌, List, Option, None, Some}
use Rattle.ec_regs.specs.declared.sync_man.SyncMan.{SyncMan}
use Rattle.ec_regs.specs.Pairs.{partner, physical_of, logical_of}
use Rattle.ec_regs.specs.declared.fmmu.Fmmu.{Fmmu}
use Rattle.ec_areas.specs.Areas.{is_readable, is_writable}
use Rattle.ec_regs.specs.declared.registers.TheConstants.{LOGICAL_BITS}
use Rattle.ec_areas.specs.Logical.{place_if, number_within}
use Rattle.ec_areas.specs.declared.met.Run.{Run}

-- a run has a bit, and its bits are among the n data bits that there are
pub record IsRunOf (n : ℕ) (run : Run) : Type 0 where
  pub some : 0 < run.count
  pub data_inside : run.at + run.count ≤ n
  pub data_fits : run.at + run.count < 2 ^ 36
  pub physical_fits : run.physical + run.count < 2 ^ 21

-- the physical bit with which an FMMU pairs a logical bit, if that bit exists
abbrev pub physical_at : Fmmu → ℕ → Option ℕ
physical_at f l = if nat_lt l LOGICAL_BITS then physical_of f l else None

-- which of the n data bits from logical bit `from` on an FMMU pairs with physical bit p
abbrev pub number_at : ℕ → ℕ → Fmmu → ℕ → Option ℕ
number_at from n f p = number_within from n (place_if (λ l. nat_lt l LOGICAL_BITS) (logical_of f p))

-- the physical bit with which data bit i is paired in a run, and the data bit with which physical bit p is
abbrev pub physical_in : Option Run → ℕ → Option ℕ
physical_in None i = None
physical_in (Some run) i = partner run.at run.physical run.count i

abbrev pub data_in : Option Run → ℕ → Option ℕ
data_in None p = None
data_in (Some run) p = partner run.physical run.at run.count p

-- the physical bit that a read takes for data bit i of a run
abbrev pub readable_in : List SyncMan → Run → ℕ → Option ℕ
readable_in managers run i =
    place_if (λ p. is_readable managers (p / 8)) (partner run.at run.physical run.count i)

-- the physical bit to which a write takes data bit i of a run
abbrev pub target_in : List SyncMan → Run → ℕ → Option ℕ
target_in managers run i =
    place_if (λ p. is_writable managers (p / 8)) (partner run.at run.physical run.count i)

-- and the data bit that it puts into physical bit p
abbrev pub writable_in : List SyncMan → Run → ℕ → Option ℕ
writable_in managers run p =
    if is_writable managers (p / 8) then partner run.physical run.at run.count p else None
