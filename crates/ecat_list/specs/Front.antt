-- A text that ends where memory ran out.
use Rattle.std.specs.Prelude.{◌≡◌, ℕ, List, ◌++◌}

-- a text that is the beginning of another, with what is missing of it
pub record IsFront (front whole : List ℕ) : Type 0 where
  pub missing : List ℕ
  pub is : front ++ missing ≡ whole
