-- Where a write changes the memory, and so which of its records are decoded anew.
use Rattle.std.specs.Prelude.{◌≡◌, ℕ, ◌+◌, ◌<◌, ◌≤◌, List, length, slice_index}

-- two memories of one length whose bytes are the same but for some of the n from an address on
pub record ChangesWithin (from n : ℕ) (before after : List ℕ) : Type 0 where
  pub size : length after ≡ length before
  pub front : (a : ℕ) → a < from → slice_index after a ≡ slice_index before a
  pub behind : (a : ℕ) → from + n ≤ a → slice_index after a ≡ slice_index before a
