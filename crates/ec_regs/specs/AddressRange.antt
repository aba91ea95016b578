-- Neighbouring bytes of a memory are told by the first address and their number.
use Rattle.std.specs.Prelude.{ℕ, ◌+◌, Bool, ◌&&◌, nat_le, nat_lt}

-- is an address one of the n from another one on
abbrev pub within : ℕ → ℕ → ℕ → Bool
within from n address = nat_le from address && nat_lt address (from + n)

-- do the n bytes from an address on and the m from another one on, of which there are some, share one
abbrev pub share_a_byte : ℕ → ℕ → ℕ → ℕ → Bool
share_a_byte from n other m = nat_lt from (other + m) && nat_lt other (from + n)

-- do the n bytes from an address on hold all of the m from another one on
abbrev pub lies_within : ℕ → ℕ → ℕ → ℕ → Bool
lies_within from n other m = nat_le from other && nat_le (other + m) (from + n)
