-- What FMMUs reach all together, and how many there are up to the last that matters: those behind it map no
-- bit (IEC 61158-4-12, FMMU).
use Rattle.std.specs.Prelude.{◌==◌, ℕ, suc, Bool, not, if◌then◌else◌, List, [], ◌∷◌}
use Rattle.ec_regs.specs.Pairs.{pair_count}
use Rattle.ec_regs.specs.declared.fmmu.Fmmu.{Fmmu}
use Rattle.ec_areas.specs.declared.extent.Extent.{Extent}
use Rattle.ec_areas.specs.Apart.{are_apart}
use Rattle.ec_areas.specs.Hull.{read_hull_of, write_hull_of}

-- how many elements there are up to the last that passes a test
unfoldable pub count_to_last : {T : Type 0} → (T → Bool) → List T → ℕ
count_to_last test [] = 0
count_to_last test (x ∷ xs) =
    if count_to_last test xs == 0 then (if test x then 1 else 0) else suc (count_to_last test xs)

-- does an FMMU map a bit
abbrev pub maps_some : Fmmu → Bool
maps_some f = not (pair_count f == 0)

-- how many FMMUs there are up to the last that maps a bit
abbrev pub mapped_count : List Fmmu → ℕ
mapped_count fmmus = count_to_last maps_some fmmus

-- what FMMUs reach all together
abbrev pub extent_of : List Fmmu → Extent
extent_of fmmus = record {
  reads = read_hull_of fmmus;
  writes = write_hull_of fmmus;
  is_apart = are_apart fmmus;
  count = mapped_count fmmus;
}
