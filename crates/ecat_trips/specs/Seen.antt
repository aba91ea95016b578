-- Marks that tell which numbers came.
use Rattle.std.specs.Prelude.{ℕ, ◌*◌, ◌/◌, ◌%◌, ◌^◌, Bool, false, List, slice_index_or}
use Rattle.ecat_trips.specs.declared.seen.TheConstants.{FACTOR}

-- which mark is that of a number: the 13 highest bits of its product
unfoldable pub slot : ℕ → ℕ
slot n = n * FACTOR % 2 ^ 64 / 2 ^ 51

-- has a number its mark
abbrev pub is_seen : List Bool → ℕ → Bool
is_seen marks n = slice_index_or marks (slot n) false
