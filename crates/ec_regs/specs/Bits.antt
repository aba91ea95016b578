-- Bits of byte lists: the bits of each byte are numbered from its least significant one, so that bit i of a
-- list is bit i mod 8 of byte i div 8 (IEC 61158-4-12, bit numbering of the FMMU).
use Rattle.std.specs.Prelude.{ℕ, ◌+◌, ◌*◌, ◌/◌, ◌%◌, ◌^◌, ◌<◌, List, length, map, slice_index}
use Rattle.std.specs.Prelude.{Option, None, Some}
use Rattle.std.specs.Int.{bit_at}
use Rattle.std.specs.List.{range_with_len}
use Rattle.std.specs.Option.{option_map_or}

-- each element of the list is a byte; past the end of the list an element is read as 0
abbrev pub AreBytes : List ℕ → Type 0
AreBytes bs = (k : ℕ) → slice_index bs k < 256

-- bit i of a byte list, 0 or 1
abbrev pub bit : List ℕ → ℕ → ℕ
bit bs i = bit_at (slice_index bs (i / 8)) (i % 8)

-- the number whose eight bits these are
abbrev pub byte_of_bits : (ℕ → ℕ) → ℕ
byte_of_bits b = b 0 + 2 * b 1 + 4 * b 2 + 8 * b 3 + 16 * b 4 + 32 * b 5 + 64 * b 6 + 128 * b 7

-- the eight bits of two neighbouring bytes from bit `shift` of the lower one on, as a byte
abbrev pub eight_bits : ℕ → ℕ → ℕ → ℕ
eight_bits low high shift = (high * 2 ^ 8 + low) / 2 ^ shift % 2 ^ 8

-- what stands at bit i once each bit j with `place j` some p has taken bit p of ys: that bit, or else the bit
-- of xs
unfoldable pub placed_bit : List ℕ → List ℕ → (ℕ → Option ℕ) → ℕ → ℕ
placed_bit xs ys place i = option_map_or (bit ys) (place i) (bit xs i)

-- the bytes of xs, with each bit j for which `place j` is some p replaced by bit p of ys
unfoldable pub with_bits : List ℕ → List ℕ → (ℕ → Option ℕ) → List ℕ
with_bits xs ys place =
    map (λ k. byte_of_bits (λ b. placed_bit xs ys place (8 * k + b))) (range_with_len 0 (length xs))

-- the second of two places where there is one, or else the first
abbrev pub later : Option ℕ → Option ℕ → Option ℕ
later first None = first
later first (Some place) = Some place
