-- The caller's room, into which bytes are put one part behind the other.
use Rattle.std.specs.Prelude.{◌≡◌, ℕ, List, ◌++◌, length, drop}

-- a room that is written up to `at`, and behind it as it was before
pub record IsWritten (written before : List ℕ) (at : ℕ) (room : List ℕ) : Type 0 where
  pub at_is : at ≡ length written
  pub room_is : room ≡ written ++ drop at before
