-- What a tally of working counters tells.
use Rattle.std.specs.Prelude.{ℕ, List}
use Rattle.ecat_list.specs.declared.counters.Count.{Count}

-- counters apart, in the order in which they came first, of how many datagrams the counter is another one,
-- and how many datagrams there are
pub record TallyRecord : Type 0 where
  pub told : List Count
  pub others : ℕ
  pub times : ℕ
