-- Which bytes of a slave an item writes, by runs.
use Rattle.std.proofs.Common.{◌≡◌, ⊎_elim, inl, inr, ℕ, ◌+◌, ◌*◌, ◌/◌, ◌<◌, ◌≤◌, true}
use Rattle.std.proofs.Common.{List, length, refl, arith}
use Rattle.std.proofs.lemmas.Bool.{and_parts, cases_lt}
use Rattle.std.proofs.lemmas.Bool.Decides.{nat_tests}
use Rattle.ec_regs.specs.AddressRange.{within, share_a_byte}
use Rattle.ec_regs.specs.Pairs.{first_logical, first_physical}
use Rattle.ec_regs.specs.declared.address_range.AddressRange.{AddressRange}
use Rattle.ec_regs.specs.declared.fmmu.Fmmu.{Fmmu}
use Rattle.ec_wire.specs.declared.kind.Kind.{Kind}
use Rattle.ec_wire.specs.declared.kind.Kind.TheVariants.{Fpwr}
use Rattle.ec_esc.specs.State.{ControllerState}
use Rattle.ec_check.specs.Line.{station_of, fmmu_of}
use Rattle.ec_map.specs.Item.{ItemRecord, is_bit_of}
use Rattle.ec_map.specs.Place.{station_named, ado_named}
use Rattle.ec_map.specs.Covered.{asks}
use Rattle.ec_map.specs.Written.{WritesSome, WritesMapped, WritesNamed, PairsRuns, ShareByte}
use Rattle.ec_map.specs.declared.covered.Way.TheVariants.{Writes}

-- ---- ranges of bytes

-- ranges that share a byte have one that lies in both
pub shared_byte : (from n other m : ℕ) → 1 ≤ n → 1 ≤ m → share_a_byte from n other m ≡ true
    → (a : ℕ) × (within from n a ≡ true) × (within other m a ≡ true)
shared_byte from n other m some more share =
    ⊎_elim
    (λ (before : from < other). (other, grind (arith, nat_tests), grind (arith, nat_tests)))
    (λ (behind : other ≤ from). (from, grind (arith, nat_tests), grind (arith, nat_tests)))
    (cases_lt from other)

pub share_from_byte : (from n other m a : ℕ) → within from n a ≡ true → within other m a ≡ true
    → share_a_byte from n other m ≡ true
share_from_byte from n other m a one two = grind (arith, nat_tests)

-- the bits of an item's range
pub bit_bounds : (address n l : ℕ) → is_bit_of address n l ≡ true
    → (8 * address ≤ l) × (l < 8 * address + 8 * n)
bit_bounds address n l inside = (grind (arith, nat_tests), grind (arith, nat_tests))

pub bit_within : (address n l : ℕ) → 8 * address ≤ l → l < 8 * address + 8 * n → is_bit_of address n l ≡ true
bit_within address n l from to = grind (arith, nat_tests)

-- the bytes of a range
pub byte_bounds : (first n a : ℕ) → within first n a ≡ true → (first ≤ a) × (a < first + n)
byte_bounds first n a inside = (grind (arith, nat_tests), grind (arith, nat_tests))

pub byte_within : (first n a : ℕ) → first ≤ a → a < first + n → within first n a ≡ true
byte_within first n a from to = grind (arith, nat_tests)

-- ---- logical items

-- a pair of bits in the item's range and in a range of bytes is a byte that the item writes
pub writes_from_runs : (line : List ControllerState) (slave first n : ℕ) (r : ItemRecord)
    → asks Writes r.kind ≡ true
    → PairsRuns line slave (record { from = 8 * r.address; to = 8 * r.address + 8 * length r.payload })
    (record { from = 8 * first; to = 8 * (first + n) })
    → WritesSome line slave first n r
writes_from_runs line slave first n r kind pairs =
    let f : Fmmu = fmmu_of line slave pairs.fmmu in
    let j : ℕ = pairs.through.1.0 in
    let pair = pairs.through.1.1 in
    let logical_from : 8 * r.address ≤ first_logical f + j = pair.logical_from in
    let logical_to : first_logical f + j < 8 * r.address + 8 * length r.payload = pair.logical_to in
    let physical_from : 8 * first ≤ first_physical f + j = pair.physical_from in
    let physical_to : first_physical f + j < 8 * (first + n) = pair.physical_to in
    record {
      address = (first_physical f + j) / 8;
      inside = byte_within first n ((first_physical f + j) / 8) (omega arith) (omega arith);
      written = inl (record {
        bit = first_logical f + j;
        asked = rw (kind) (bit_within r.address (length r.payload) (first_logical f + j) logical_from logical_to);
        paired = record {
          fmmu = pairs.fmmu;
          there = pairs.there;
          for_writing = pairs.through.0;
          physical = first_physical f + j;
          pair = (j, record { mapped = pair.mapped; logical = refl; physical = refl });
          byte = refl;
        };
      });
    }

-- no logical item is a write to a station
not_named : (k : Kind) → asks Writes k ≡ true → k ≡ Fpwr → ⊥
not_named k kind is = absurd (let both : asks Writes Fpwr ≡ true = rw (is) at kind in cc)

pub runs_from_writes : (line : List ControllerState) (slave first n : ℕ) (r : ItemRecord)
    → asks Writes r.kind ≡ true → WritesSome line slave first n r
    → PairsRuns line slave (record { from = 8 * r.address; to = 8 * r.address + 8 * length r.payload })
    (record { from = 8 * first; to = 8 * (first + n) })
runs_from_writes line slave first n r kind some =
    ⊎_elim
    (λ (mapped : WritesMapped line slave some.address r).
    let f : Fmmu = fmmu_of line slave mapped.paired.fmmu in
    let j : ℕ = mapped.paired.pair.0 in
    let at = mapped.paired.pair.1 in
    let logical : mapped.bit ≡ first_logical f + j = at.logical in
    let physical : mapped.paired.physical ≡ first_physical f + j = at.physical in
    let byte : mapped.paired.physical / 8 ≡ some.address = mapped.paired.byte in
    let inside = byte_bounds first n some.address some.inside in
    let parts = and_parts (asks Writes r.kind) (is_bit_of r.address (length r.payload) mapped.bit) mapped.asked in
    let bits = bit_bounds r.address (length r.payload) mapped.bit parts.1 in
    record {
      fmmu = mapped.paired.fmmu;
      there = mapped.paired.there;
      through = (
        mapped.paired.for_writing,
        (
          j,
          record {
            mapped = at.mapped;
            logical_from = omega (arith, bits.0);
            logical_to = omega (arith, bits.1);
            physical_from = omega (arith, inside.0);
            physical_to = omega (arith, inside.1);
          },
        ),
      );
    })
    (λ (named : WritesNamed line slave some.address r). absurd (not_named r.kind kind named.kind))
    some.written

-- ---- writes to a station

-- a byte that both ranges have is one that the item writes
pub writes_from_range : (line : List ControllerState) (slave : ℕ) (bytes range : AddressRange) (r : ItemRecord)
    → r.kind ≡ Fpwr → station_of line slave ≡ station_named r → range.first ≡ ado_named r
    → range.count ≡ length r.payload → ShareByte bytes range
    → WritesSome line slave bytes.first bytes.count r
writes_from_range line slave bytes range r kind station first count share = record {
  address = share.address;
  inside = share.inside;
  written = inr (record { kind = kind; station = station; range = rw (← first, ← count) share.there });
}

-- what a write to a station writes it writes there, and in its range
pub range_from_writes : (line : List ControllerState) (slave : ℕ) (bytes range : AddressRange) (r : ItemRecord)
    → r.kind ≡ Fpwr → range.first ≡ ado_named r → range.count ≡ length r.payload
    → WritesSome line slave bytes.first bytes.count r
    → (station_of line slave ≡ station_named r) × ShareByte bytes range
range_from_writes line slave bytes range r kind first count some =
    ⊎_elim
    (λ (mapped : WritesMapped line slave some.address r).
    let parts = and_parts (asks Writes r.kind) (is_bit_of r.address (length r.payload) mapped.bit) mapped.asked in
    absurd (not_named r.kind parts.0 kind))
    (λ (named : WritesNamed line slave some.address r). (
      named.station,
      record { address = some.address; inside = some.inside; there = rw (first, count) named.range },
    ))
    some.written
