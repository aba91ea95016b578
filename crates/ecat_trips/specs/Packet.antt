-- Where a frame comes from: the mark is bit 1 of the first byte of its Ethernet source address, which the
-- first slave that processes a frame sets; without it the address is the base (IEC 61158-4-12, frames over
-- Ethernet).
use Rattle.std.specs.Prelude.{ℕ, ◌-◌, ◌/◌, ◌%◌, ◌^◌, Bool, ◌==◌, if◌then◌else◌}

-- is the mark set in an address of 48 bits
abbrev pub is_marked : ℕ → Bool
is_marked address = address / 2 ^ 41 % 2 == 1

-- the address without it
abbrev pub base_of : ℕ → ℕ
base_of address = if is_marked address then address - 2 ^ 41 else address
