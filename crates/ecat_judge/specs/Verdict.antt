-- The verdict of a trip: each counter is the one that the line gives, or it is short of it, or over it.
use Rattle.std.specs.Prelude.{ℕ, ◌-◌, ◌==◌, Bool, not, nat_lt, if◌then◌else◌, List, bit_and, bit_xor}
use Rattle.std.specs.List.{list_all}
use Rattle.ecat_judge.specs.declared.verdict.Counted.{Counted}
use Rattle.ecat_judge.specs.declared.verdict.Standing.{Standing}
use Rattle.ecat_judge.specs.declared.verdict.Standing.TheVariants.{Good, Short, Over}

-- a counter moved as far as the line gives
abbrev pub counts_well : Counted → Bool
counts_well c = c.moved == c.expected

-- how far it is short of that
abbrev pub short : Counted → ℕ
short c = c.expected - c.moved

abbrev pub standing : Counted → Standing
standing c =
    if c.moved == c.expected then Good else if nat_lt c.moved c.expected then Short else Over

-- a trip is good where all of its counters are
abbrev pub is_good : List Counted → Bool
is_good counters = list_all counts_well counters

-- one of these bits of a byte changed on its way
abbrev pub has_changed : ℕ → ℕ → ℕ → Bool
has_changed mask before after = not (bit_and (bit_xor before after) mask == 0)
