-- Which bytes of a slave's memory an item writes: a logical write or exchange those of which an FMMU for
-- writing pairs a bit with one of the item's, a write to a station those of its range (IEC 61158-4-12, FMMU
-- and station addressing).
use Rattle.std.specs.Prelude.{◌≡◌, ◌⊎◌, ℕ, ◌+◌, ◌*◌, ◌/◌, ◌<◌, ◌≤◌, true, List, length}
use Rattle.ec_regs.specs.AddressRange.{within}
use Rattle.ec_regs.specs.Pairs.{writes, first_logical, first_physical, pair_count, IsPair}
use Rattle.ec_regs.specs.declared.address_range.AddressRange.{AddressRange}
use Rattle.ec_regs.specs.declared.fmmu.Fmmu.{Fmmu}
use Rattle.ec_wire.specs.declared.kind.Kind.TheVariants.{Fpwr}
use Rattle.ec_esc.specs.State.{ControllerState}
use Rattle.ec_check.specs.Line.{station_of, fmmu_of, HasFmmu}
use Rattle.ec_map.specs.Item.{ItemRecord}
use Rattle.ec_map.specs.Place.{station_named, ado_named}
use Rattle.ec_map.specs.Covered.{asks_bit}
use Rattle.ec_map.specs.declared.covered.Way.TheVariants.{Writes}
use Rattle.ec_map.specs.declared.written.BitRun.{BitRun}

-- an FMMU for writing of the slave pairs a logical bit with a bit of the byte at an address
pub record PairsByte (line : List ControllerState) (slave l address : ℕ) : Type 0 where
  pub fmmu : ℕ
  pub there : HasFmmu line slave fmmu
  pub for_writing : writes (fmmu_of line slave fmmu) ≡ true
  pub physical : ℕ
  pub pair : IsPair (fmmu_of line slave fmmu) l physical
  pub byte : physical / 8 ≡ address

-- the item writes a bit that is paired with one of the byte
pub record WritesMapped (line : List ControllerState) (slave address : ℕ) (r : ItemRecord) : Type 0 where
  pub bit : ℕ
  pub asked : asks_bit Writes bit r ≡ true
  pub paired : PairsByte line slave bit address

-- the item is a write to the slave's station, and the byte lies in its range
pub record WritesNamed (line : List ControllerState) (slave address : ℕ) (r : ItemRecord) : Type 0 where
  pub kind : r.kind ≡ Fpwr
  pub station : station_of line slave ≡ station_named r
  pub range : within (ado_named r) (length r.payload) address ≡ true

-- the item writes the byte at an address
abbrev pub WritesByte : List ControllerState → ℕ → ℕ → ItemRecord → Type 0
WritesByte line slave address r = WritesMapped line slave address r ⊎ WritesNamed line slave address r

-- it writes one of the n bytes from an address on
pub record WritesSome (line : List ControllerState) (slave from n : ℕ) (r : ItemRecord) : Type 0 where
  pub address : ℕ
  pub inside : within from n address ≡ true
  pub written : WritesByte line slave address r

-- ---- by runs

-- a byte lies in both ranges
pub record ShareByte (bytes range : AddressRange) : Type 0 where
  pub address : ℕ
  pub inside : within bytes.first bytes.count address ≡ true
  pub there : within range.first range.count address ≡ true

-- the FMMU's pair number j has its physical bit in the run
pub record IsPairInRun (f : Fmmu) (physical : BitRun) (j : ℕ) : Type 0 where
  pub mapped : j < pair_count f
  pub from : physical.from ≤ first_physical f + j
  pub to : first_physical f + j < physical.to

-- it has its logical bit in the one run of bits, and its physical bit in the other
pub record IsPairInRuns (f : Fmmu) (logical physical : BitRun) (j : ℕ) : Type 0 where
  pub mapped : j < pair_count f
  pub logical_from : logical.from ≤ first_logical f + j
  pub logical_to : first_logical f + j < logical.to
  pub physical_from : physical.from ≤ first_physical f + j
  pub physical_to : first_physical f + j < physical.to

-- the FMMU is for writing, and has such a pair
abbrev pub WritesRun : Fmmu → BitRun → Type 0
WritesRun f physical = (writes f ≡ true) × ((j : ℕ) × IsPairInRun f physical j)

abbrev pub WritesRuns : Fmmu → BitRun → BitRun → Type 0
WritesRuns f logical physical = (writes f ≡ true) × ((j : ℕ) × IsPairInRuns f logical physical j)

-- some FMMU of the slave is one that maps a bit of the n bytes from an address on
pub record MapsRun (line : List ControllerState) (slave first n : ℕ) : Type 0 where
  pub fmmu : ℕ
  pub there : HasFmmu line slave fmmu
  pub through : WritesRun (fmmu_of line slave fmmu) (record { from = 8 * first; to = 8 * (first + n) })

-- some FMMU of the slave is one that pairs bits of the two runs
pub record PairsRuns (line : List ControllerState) (slave : ℕ) (logical physical : BitRun) : Type 0 where
  pub fmmu : ℕ
  pub there : HasFmmu line slave fmmu
  pub through : WritesRuns (fmmu_of line slave fmmu) logical physical
