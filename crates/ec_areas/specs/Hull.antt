-- The logical bits that the master reads, or writes, through some FMMUs lie in a hull, and a datagram whose
-- bits lie outside of it reaches none of them (IEC 61158-4-12, FMMU).
use Rattle.std.specs.Prelude.{◌==◌, ◌||◌, ◌+◌, ℕ, Bool, nat_le, min, max, if◌then◌else◌, List, fold}
use Rattle.ec_regs.specs.Pairs.{first_logical, pair_count, reads, writes}
use Rattle.ec_regs.specs.declared.fmmu.Fmmu.{Fmmu}
use Rattle.ec_regs.specs.declared.registers.TheConstants.{LOGICAL_BITS}
use Rattle.ec_areas.specs.declared.hull.LogicalHull.{LogicalHull}

-- the hull of no bits
abbrev pub nowhere : LogicalHull
nowhere = record { first = LOGICAL_BITS; end = 0 }

-- the least hull that holds a hull and the bits that an FMMU maps
abbrev pub widened : LogicalHull → Fmmu → LogicalHull
widened hull f =
    if pair_count f == 0 then hull else record {
      first = min hull.first (first_logical f);
      end = max hull.end (first_logical f + pair_count f);
    }

-- a hull and the bits that the master reads through an FMMU
abbrev pub widened_by_reader : LogicalHull → Fmmu → LogicalHull
widened_by_reader hull f = if reads f then widened hull f else hull

-- a hull and the bits that the master writes through an FMMU
abbrev pub widened_by_writer : LogicalHull → Fmmu → LogicalHull
widened_by_writer hull f = if writes f then widened hull f else hull

-- the least hull that holds all bits that the master reads through the FMMUs
unfoldable pub read_hull_of : List Fmmu → LogicalHull
read_hull_of fmmus = fold widened_by_reader nowhere fmmus

-- and the least that holds all that it writes
unfoldable pub write_hull_of : List Fmmu → LogicalHull
write_hull_of fmmus = fold widened_by_writer nowhere fmmus

-- do the n bits from logical bit `from` on lie outside of the hull
abbrev pub misses : LogicalHull → ℕ → ℕ → Bool
misses hull from n = nat_le hull.end from || nat_le (from + n) hull.first
