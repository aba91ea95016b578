-- What a controller tells of itself: ten bytes, field after field, the lowest byte of a number first (IEC
-- 61158-4-12, DL information).
use Rattle.std.specs.Prelude.{ℕ, List, ◌∷◌, ◌++◌}
use Rattle.std.specs.Int.{w16, to_le_bytes}
use Rattle.ec_regs.specs.declared.information.Information.{Information}

-- the bytes that spell it
abbrev pub information_bytes : Information → List ℕ
information_bytes i =
    i.kind ∷ i.revision ∷ to_le_bytes w16 i.build
    ++ i.fmmus ∷ i.sync_managers ∷ i.memory ∷ i.ports ∷ to_le_bytes w16 i.features
