-- How packets spell the number of a cycle, and what all of them begin with: four letters, a version, a kind,
-- and how many bytes of process data follow the head.
use Rattle.std.specs.Prelude.{ℕ, ◌-◌, ◌<◌, ◌^◌, ◌==◌, List, ◌∷◌, ◌++◌, Option, None, Some, IfSome}
use Rattle.std.specs.Prelude.{codes, if◌then◌else◌}
use Rattle.std.specs.Int.{w16, to_le_bytes}

-- ---- numbers of cycles

-- all ones, which stand for no cycle
abbrev pub no_cycle : ℕ
no_cycle = 2 ^ 64 - 1

-- the number that stands for a cycle, or for none
abbrev pub cycle_number : Option ℕ → ℕ
cycle_number None = no_cycle
cycle_number (Some n) = n

-- the cycle that a number stands for, or none
abbrev pub cycle_of : ℕ → Option ℕ
cycle_of n = if n == no_cycle then None else Some n

-- A packet can say that it is this cycle, or none: its number does not stand for another.
abbrev pub IsSpellable : Option ℕ → Type 0
IsSpellable cycle = IfSome cycle (λ n. n < no_cycle)

-- ---- the front of a packet

-- the letters at the front of each packet
abbrev pub letters : List ℕ
letters = codes "EcIO"

-- the version of this layout
abbrev pub version : ℕ
version = 1

-- the front of a packet of a kind that has n bytes of process data
abbrev pub front : ℕ → ℕ → List ℕ
front kind n = letters ++ version ∷ kind ∷ to_le_bytes w16 n
