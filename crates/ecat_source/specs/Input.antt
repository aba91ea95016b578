-- What is ahead of a reader with a buffer, and how often its source has failed.
use Rattle.std.specs.Prelude.{ℕ, List, Option, take, drop, ◌-◌}

-- the bytes in the buffer that were not taken yet and then those that the source has left, where it tells
-- them; and the source's count of failures
pub record Input : Type 0 where
  pub ahead : Option (List ℕ)
  pub count : ℕ

-- the bytes from one place up to another
abbrev pub run : ℕ → ℕ → List ℕ → List ℕ
run from to bytes = take (to - from) (drop from bytes)
