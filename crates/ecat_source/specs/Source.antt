-- What a source promises of its bytes and of its failures.
use Rattle.std.specs.Prelude.{ℕ, ◌-◌, ◌^◌, ◌<◌}

-- A failure can be counted: the count of failures is below the greatest u64. Past that a source answers
-- that nothing is left.
abbrev pub CanFail : ℕ → Type 0
CanFail count = count < 2 ^ 64 - 1
