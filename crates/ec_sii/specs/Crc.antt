-- The checksum of bytes: a CRC of eight bits by the polynomial x^8 + x^2 + x + 1, begun with 255, the highest
-- bit of each byte first, with nothing added behind (ETG.1000.6, slave information interface; ETG.2010).
use Rattle.std.specs.Prelude.{ℕ, ◌-◌, ◌*◌, nat_lt, if◌then◌else◌, bit_xor, List, [], ◌∷◌}

-- one bit further: the highest bit leaves, and where it was 1, the polynomial is added
unfoldable pub shifted : ℕ → ℕ
shifted crc = if nat_lt crc 128 then 2 * crc else bit_xor (2 * (crc - 128)) 7

-- one byte further
abbrev pub with_byte : ℕ → ℕ → ℕ
with_byte crc byte =
    let sum = shifted (shifted (shifted (shifted (bit_xor crc byte)))) in
    shifted (shifted (shifted (shifted sum)))

abbrev pub crc_from : ℕ → List ℕ → ℕ
crc_from crc [] = crc
crc_from crc (byte ∷ more) = crc_from (with_byte crc byte) more

abbrev pub crc8 : List ℕ → ℕ
crc8 bytes = crc_from 255 bytes
