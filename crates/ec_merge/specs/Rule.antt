-- What a redundant master makes of two copies of one value that it sent: a working counter has moved as far
-- as in both copies together, and a bit has changed exactly if it has in some copy.
use Rattle.std.specs.Prelude.{◌≢◌, ◌↔◌, ◌⊎◌, ℕ, ◌+◌, ◌-◌, ◌%◌, Bool, true, false, ◌&&◌, ◌||◌}
use Rattle.std.specs.Int.Bits.{bit_or, bit_xor}

-- how far a counter of 16 bits has moved from the sent one
abbrev pub distance : ℕ → ℕ → ℕ
distance sent count = (count + (65536 - sent)) % 65536

-- the counter that has moved from the sent one by both distances
abbrev pub joined_count : ℕ → ℕ → ℕ → ℕ
joined_count sent a b = (a + b + (65536 - sent)) % 65536

-- the bits of a number that has changed where a or b has
abbrev pub joined_bits : ℕ → ℕ → ℕ → ℕ
joined_bits sent a b = bit_xor sent (bit_or (bit_xor a sent) (bit_xor b sent))

-- the bit that has changed if a or b has
abbrev pub joined_flag : Bool → Bool → Bool → Bool
joined_flag false a b = a || b
joined_flag true a b = a && b

-- joined differs from sent exactly if a or b does
abbrev pub IsJoinedBit : {A : Type 0} → A → A → A → A → Type 0
IsJoinedBit sent a b joined = (joined ≢ sent) ↔ ((a ≢ sent) ⊎ (b ≢ sent))
