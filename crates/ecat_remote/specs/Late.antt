-- Which packets are copies of earlier trips of the same ports, and which are of others, by the numbers that
-- they bear.
use Rattle.std.specs.Prelude.{ℕ, ◌+◌, ◌-◌, ◌/◌, ◌%◌, ◌^◌, ◌&&◌, if◌then◌else◌, nat_le, Bool, not}
use Rattle.std.specs.Prelude.{Option, None, Some}

-- the trip of a copy, counted from the first one as 0, of ports that have made so many trips and whose next
-- one has this number; none where it is of the last trip, or of none of these
abbrev pub late_trip : ℕ → ℕ → ℕ → Option ℕ
late_trip next made number =
    let ago = (next + 2 ^ 63 - number / 2) % 2 ^ 63
    in if nat_le 2 ago && nat_le ago made then Some (made - ago) else None

-- is it the number of no trip of ports that have made so many and whose next one has this number?
abbrev pub is_stranger : ℕ → ℕ → ℕ → Bool
is_stranger next made number =
    let ago = (next + 2 ^ 63 - number / 2) % 2 ^ 63
    in not (nat_le 1 ago && nat_le ago made)
