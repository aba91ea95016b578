-- A logical command reaches the bits of a controller that its FMMUs map, where the areas of its sync managers
-- allow it (IEC 61158-4-12, FMMU). Bit numbers are 8 * byte address + bit.
use Rattle.std.specs.Prelude.{◌≡◌, ◌&&◌, ◌||◌, ℕ, zero, suc, ◌+◌, ◌-◌, ◌/◌, ◌<◌, ◌≤◌, Bool, true, false}
use Rattle.std.specs.Prelude.{nat_le, nat_lt, if◌then◌else◌, Option, None, Some, List, [], ◌∷◌}
use Rattle.std.specs.List.{Any}
use Rattle.std.specs.Option.{is_some, IsSome}
use Rattle.ec_regs.specs.Bits.{later}
use Rattle.ec_regs.specs.Pairs.{reads, writes, IsPair, physical_of, logical_of}
use Rattle.ec_regs.specs.declared.fmmu.Fmmu.{Fmmu}
use Rattle.ec_regs.specs.declared.sync_man.SyncMan.{SyncMan}
use Rattle.ec_regs.specs.declared.registers.TheConstants.{LOGICAL_BITS}
use Rattle.ec_areas.specs.Areas.{is_readable, is_writable}

-- ---- the pairs as sets

-- a readable pair: an FMMU for reading maps it, its logical bit exists, and its physical byte may be read
pub record IsReadablePair (managers : List SyncMan) (f : Fmmu) (l p : ℕ) : Type 0 where
  pub mapped : IsPair f l p
  pub for_reading : reads f ≡ true
  pub exists : l < LOGICAL_BITS
  pub allowed : is_readable managers (p / 8) ≡ true

-- a writable pair: an FMMU for writing maps it, its logical bit exists, and its physical byte may be written
pub record IsWritablePair (managers : List SyncMan) (f : Fmmu) (l p : ℕ) : Type 0 where
  pub mapped : IsPair f l p
  pub for_writing : writes f ≡ true
  pub exists : l < LOGICAL_BITS
  pub allowed : is_writable managers (p / 8) ≡ true

-- a readable pair, and a writable pair, of some FMMU of a controller
abbrev pub IsReadable : List SyncMan → List Fmmu → ℕ → ℕ → Type 0
IsReadable managers fmmus l p = Any (λ f. IsReadablePair managers f l p) fmmus

abbrev pub IsWritable : List SyncMan → List Fmmu → ℕ → ℕ → Type 0
IsWritable managers fmmus l p = Any (λ f. IsWritablePair managers f l p) fmmus

-- ---- the same as partial functions

-- a place where it passes a test, else none
abbrev pub place_if : (ℕ → Bool) → Option ℕ → Option ℕ
place_if test None = None
place_if test (Some place) = if test place then Some place else None

-- the physical bit of the FMMU's readable pair with logical bit l
unfoldable pub read_place : List SyncMan → Fmmu → ℕ → Option ℕ
read_place managers f l =
    if reads f && nat_lt l LOGICAL_BITS
    then place_if (λ p. is_readable managers (p / 8)) (physical_of f l) else None

-- the physical bit of the FMMU's writable pair with logical bit l
unfoldable pub write_target : List SyncMan → Fmmu → ℕ → Option ℕ
write_target managers f l =
    if writes f && nat_lt l LOGICAL_BITS
    then place_if (λ p. is_writable managers (p / 8)) (physical_of f l) else None

-- the logical bit of the FMMU's writable pair with physical bit p
unfoldable pub write_place : List SyncMan → Fmmu → ℕ → Option ℕ
write_place managers f p =
    if writes f && is_writable managers (p / 8)
    then place_if (λ l. nat_lt l LOGICAL_BITS) (logical_of f p) else None

-- ---- all FMMUs of a controller: where pairs meet, the later FMMU prevails

-- the physical bit that a read takes for logical bit l
unfoldable pub read_map : List SyncMan → List Fmmu → ℕ → Option ℕ
read_map managers [] l = None
read_map managers (f ∷ fs) l = later (read_place managers f l) (read_map managers fs l)

-- the same for the bits from logical bit `from` on, by their number
abbrev pub read_places : List SyncMan → List Fmmu → ℕ → ℕ → Option ℕ
read_places managers fmmus from i = read_map managers fmmus (from + i)

-- a physical bit to which a write of logical bit l goes; another may belong to it too
unfoldable pub target_map : List SyncMan → List Fmmu → ℕ → Option ℕ
target_map managers [] l = None
target_map managers (f ∷ fs) l = later (write_target managers f l) (target_map managers fs l)

-- the same for the bits from logical bit `from` on, by their number
abbrev pub target_places : List SyncMan → List Fmmu → ℕ → ℕ → Option ℕ
target_places managers fmmus from i = target_map managers fmmus (from + i)

-- the number, counted from logical bit `from`, of a bit among the n that begin there
abbrev pub number_within : ℕ → ℕ → Option ℕ → Option ℕ
number_within from n None = None
number_within from n (Some l) = if nat_le from l && nat_lt (l - from) n then Some (l - from) else None

-- which of the n bits from logical bit `from` on a write of them puts into physical bit p
unfoldable pub write_map : List SyncMan → List Fmmu → ℕ → ℕ → ℕ → Option ℕ
write_map managers [] from n p = None
write_map managers (f ∷ fs) from n p =
    later (number_within from n (write_place managers f p)) (write_map managers fs from n p)

-- the map has a place for a bit exactly where the bit is paired, and the place is one with which it is paired
pub record NamesPairs (map : ℕ → Option ℕ) (paired : ℕ → ℕ → Type 0) : Type 0 where
  pub is_paired : (l p : ℕ) → map l ≡ Some p → paired l p
  pub is_found : (l p : ℕ) → paired l p → IsSome (map l)

-- ---- ranges

-- is one of the first n bits mapped
unfoldable pub names : (ℕ → Option ℕ) → ℕ → Bool
names map zero = false
names map (suc n) = names map n || is_some (map n)

-- does a readable pair have its logical bit among the n from logical bit `from` on
abbrev pub reads_some : List SyncMan → List Fmmu → ℕ → ℕ → Bool
reads_some managers fmmus from n = names (read_places managers fmmus from) n

-- does a writable pair
abbrev pub writes_some : List SyncMan → List Fmmu → ℕ → ℕ → Bool
writes_some managers fmmus from n = names (target_places managers fmmus from) n

-- these two are paired, and the logical bit is one of the n from logical bit `from` on
pub record IsPairWithin (paired : ℕ → ℕ → Type 0) (from n l p : ℕ) : Type 0 where
  pub pair : paired l p
  pub starts : from ≤ l
  pub ends : l < from + n
