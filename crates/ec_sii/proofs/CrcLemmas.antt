-- The checksum goes over bytes one after the other.
use Rattle.std.proofs.Common.{◌≡◌, ℕ, zero, suc, ◌<◌, List, [], ◌∷◌, length, get_or, drop, refl, arith}
use Rattle.ec_sii.specs.Crc.{crc_from, with_byte}

-- with the next byte, those that are left make of it what they made before
pub crc_step : (crc k d : ℕ) (bytes : List ℕ) → k < length bytes
    → crc_from (with_byte crc (get_or bytes k d)) (drop (suc k) bytes) ≡ crc_from crc (drop k bytes)
crc_step crc k d [] inside = absurd (omega arith)
crc_step crc zero d (byte ∷ more) inside = refl
crc_step crc (suc k) d (byte ∷ more) inside = crc_step crc k d more (omega arith)
