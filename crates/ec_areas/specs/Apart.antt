-- Where what the master reads and what it writes through FMMUs share no bit of the memory, it does not matter
-- which of the two comes first (IEC 61158-4-12, FMMU).
use Rattle.std.specs.Prelude.{◌+◌, ◌||◌, Bool, not, nat_le, List}
use Rattle.std.specs.List.{list_all}
use Rattle.ec_regs.specs.Pairs.{reads, writes, first_physical, pair_count}
use Rattle.ec_regs.specs.declared.fmmu.Fmmu.{Fmmu}

-- the runs of physical bits of two FMMUs have none in common: one ends where the other begins, or before
abbrev pub share_none : Fmmu → Fmmu → Bool
share_none f g =
    nat_le (first_physical f + pair_count f) (first_physical g)
    || nat_le (first_physical g + pair_count g) (first_physical f)

-- an FMMU has none in common with those for writing
abbrev pub is_apart_from_writers : Fmmu → List Fmmu → Bool
is_apart_from_writers f fmmus = list_all (λ g. not (writes g) || share_none f g) fmmus

-- each FMMU for reading has none in common with those for writing
unfoldable pub are_apart : List Fmmu → Bool
are_apart fmmus = list_all (λ f. not (reads f) || is_apart_from_writers f fmmus) fmmus
