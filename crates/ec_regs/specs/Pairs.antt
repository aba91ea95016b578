-- The pairs of an FMMU: it lays a run of logical bits onto a run of physical bits of the same length, bit for
-- bit (IEC 61158-4-12, FMMU entity). Bit numbers are 8 * byte address + bit.
use Rattle.std.specs.Prelude.{◌≡◌, ◌==◌, ◌&&◌, ◌||◌, ℕ, Bool, ◌+◌, ◌-◌, ◌*◌, ◌<◌, nat_le, nat_lt}
use Rattle.std.specs.Prelude.{if◌then◌else◌, Option, None, Some}
use Rattle.std.specs.Int.{bit_at}
use Rattle.ec_regs.specs.declared.fmmu.Fmmu.{Fmmu}
use Rattle.ec_regs.specs.declared.fmmu.TheConstants.{LAST_BIT}

-- is the FMMU switched on
abbrev pub is_switched_on : Fmmu → Bool
is_switched_on f = bit_at f.activate 0 == 1

-- does the master read through it
abbrev pub reads : Fmmu → Bool
reads f = bit_at f.kind 0 == 1

-- does the master write through it
abbrev pub writes : Fmmu → Bool
writes f = bit_at f.kind 1 == 1

-- is it for reading alone or for writing alone
abbrev pub has_one_type : Fmmu → Bool
has_one_type f = f.kind == 1 || f.kind == 2

-- the first logical bit of the run, and the first physical one
abbrev pub first_logical : Fmmu → ℕ
first_logical f = 8 * f.logical + f.start

abbrev pub first_physical : Fmmu → ℕ
first_physical f = 8 * f.physical + f.bit

-- may the FMMU map at all: it is active, has a byte, and its three bit fields name bits of a byte
abbrev pub can_map : Fmmu → Bool
can_map f =
    is_switched_on f && nat_le 1 f.length && nat_le f.start LAST_BIT && nat_le f.stop LAST_BIT
    && nat_le f.bit LAST_BIT

-- how many pairs it has: from the start bit of the first byte to the stop bit of the last one, and none where
-- that is below one
unfoldable pub pair_count : Fmmu → ℕ
pair_count f = if can_map f then 8 * (f.length - 1) + f.stop + 1 - f.start else 0

-- logical bit l and physical bit p are pair number j
pub record IsPairAt (f : Fmmu) (l p j : ℕ) : Type 0 where
  pub mapped : j < pair_count f
  pub logical : l ≡ first_logical f + j
  pub physical : p ≡ first_physical f + j

-- the FMMU pairs logical bit l with physical bit p
abbrev pub IsPair : Fmmu → ℕ → ℕ → Type 0
IsPair f l p = (j : ℕ) × IsPairAt f l p j

-- where bit i of the run of n bits from `from` goes, if the run is laid at `to`
unfoldable pub partner : ℕ → ℕ → ℕ → ℕ → Option ℕ
partner from to n i = if nat_le from i && nat_lt (i - from) n then Some (to + (i - from)) else None

-- the physical bit of a logical one, as a read through the FMMU takes it
abbrev pub physical_of : Fmmu → ℕ → Option ℕ
physical_of f = partner (first_logical f) (first_physical f) (pair_count f)

-- the logical bit of a physical one, as a write through the FMMU takes it
abbrev pub logical_of : Fmmu → ℕ → Option ℕ
logical_of f = partner (first_physical f) (first_logical f) (pair_count f)
