-- The links of a line of n slaves: link 0 goes from the master's port A to the first slave, link k from
-- slave k - 1 to slave k, and link n from the last slave to port B.
use Rattle.std.specs.Prelude.{◌≡◌, ◌≢◌, ℕ, zero, suc, ◌+◌, ◌≤◌, Bool, true, false, if◌then◌else◌}
use Rattle.std.specs.Prelude.{Option, None, Some, is_none, slice_index_or}
use Rattle.std.specs.Option.{option_or}
use Rattle.ec_ring.specs.declared.links.Links.{Links}

-- is the link with a number up
abbrev pub is_up : Links → ℕ → Bool
is_up links k = slice_index_or links.up k true

-- the links from one to another are up
abbrev pub AreUp : Links → ℕ → ℕ → Type 0
AreUp links from to = (k : ℕ) → from ≤ k → k ≤ to → is_up links k ≡ true

-- some link from 0 to another is down
abbrev pub SomeDown : Links → ℕ → Type 0
SomeDown links to = (k : ℕ) × (k ≤ to) × (is_up links k ≡ false)

-- of the links 0 to n none is down but perhaps one
abbrev pub IsOnlyDown : Links → ℕ → ℕ → Type 0
IsOnlyDown links n k = (j : ℕ) → j ≤ n → j ≢ k → is_up links j ≡ true

-- the first of some links that is down: of those numbered below m
unfoldable pub first_down : Links → ℕ → Option ℕ
first_down links zero = None
first_down links (suc m) = option_or (first_down links m) (if is_up links m then None else Some m)

-- the last of them
unfoldable pub last_down : Links → ℕ → Option ℕ
last_down links zero = None
last_down links (suc m) = if is_up links m then last_down links m else Some m

-- is no link of a line of n slaves down
abbrev pub is_whole : Links → ℕ → Bool
is_whole links n = is_none (last_down links (n + 1))
