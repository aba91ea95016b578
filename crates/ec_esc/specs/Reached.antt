-- Which FMMUs need be looked at for what they reach all together (IEC 61158-4-12, FMMU).
use Rattle.std.specs.Prelude.{◌≡◌, ◌⊎◌, take, List}
use Rattle.ec_regs.specs.declared.fmmu.Fmmu.{Fmmu}
use Rattle.ec_areas.specs.Extent.{mapped_count}

-- of these FMMUs those need be looked at: all of them, or those up to the last that maps a bit
abbrev pub AreUsed : List Fmmu → List Fmmu → Type 0
AreUsed fmmus few = (few ≡ take (mapped_count fmmus) fmmus) ⊎ (few ≡ fmmus)
