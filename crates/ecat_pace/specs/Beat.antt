-- When cycles are due that begin so far apart, in microseconds of the clock: one whose time has passed when
-- the next one is due is left out and never made up for.
use Rattle.std.specs.Prelude.{ℕ, zero, suc, ◌+◌, ◌*◌, ◌-◌, ◌/◌, ◌^◌, min, Option, None, Some}

-- how many cycles are left out where one begins so late
abbrev pub missed_by : ℕ → ℕ → ℕ
missed_by late zero = 0
missed_by late (suc more) = late / (suc more)

-- when the next one is due behind one that was due there, as far as the clock's microseconds go
abbrev pub due_behind : ℕ → ℕ → ℕ → ℕ
due_behind due every missed = min (due + every * (missed + 1)) (2 ^ 64 - 1)

-- how long before the next one is due a cycle ends where a fifth of the time between two is left
abbrev pub spared : Option ℕ → ℕ
spared None = 0
spared (Some every) = every / 5
