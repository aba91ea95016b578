-- The flags of a report: bit 0 says that not all slaves are in Op, bits 1 and 2 that no copy came at port A
-- or at port B, and bit 3 that the outputs are stale.
use Rattle.std.specs.Prelude.{ℕ, ◌+◌, ◌*◌, ◌/◌, ◌%◌, ◌==◌, Bool, not, if◌then◌else◌}

-- a flag as a number
abbrev pub bit_of : Bool → ℕ
bit_of flag = if flag then 1 else 0

-- the byte of the flags
abbrev pub flags_byte : Bool → Bool → Bool → Bool → ℕ
flags_byte in_op missing_a missing_b stale =
    bit_of (not in_op) + 2 * bit_of missing_a + 4 * bit_of missing_b + 8 * bit_of stale

-- is the flag of this worth set in a byte
abbrev pub has_flag : ℕ → ℕ → Bool
has_flag worth byte = byte / worth % 2 == 1
