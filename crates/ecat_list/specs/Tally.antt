-- What is told of some datagrams of a group: how many there are, and of the first eight working counters, in
-- the order in which they came first, how often each came and where first (IEC 61158-4-12, working counter).
use Rattle.std.specs.Prelude.{◌≡◌, ℕ, ◌+◌, ◌<◌, Bool, ◌==◌, not, if◌then◌else◌, Some, List, [], ◌∷◌, ◌++◌}
use Rattle.std.specs.Prelude.{length, map, take, count_by, find}
use Rattle.std.specs.List.{AllByRecursion, list_any}
use Rattle.std.specs.Option.{option_map}
use Rattle.std.specs.Io.Iter.{u64_saturate}
use Rattle.ecat_list.specs.Counts.{TallyRecord}
use Rattle.ecat_list.specs.declared.counters.Came.{Came}
use Rattle.ecat_list.specs.declared.counters.Count.{Count}
use Rattle.ecat_list.specs.declared.counters.TheConstants.{MAX_COUNTERS}

-- did a datagram come with this counter
abbrev pub came_with : ℕ → Came → Bool
came_with counter c = c.counter == counter

-- is what is counted this counter
abbrev pub has_counter : ℕ → Count → Bool
has_counter counter c = c.counter == counter

-- counters, and one more where it is none of them
abbrev pub with_counter : List ℕ → ℕ → List ℕ
with_counter known counter =
    if list_any (λ c. c == counter) known then known else known ++ counter ∷ []

-- the counters of datagrams in the order in which they came first, each once, behind some that are known
abbrev pub counters_behind : List ℕ → List Came → List ℕ
counters_behind known [] = known
counters_behind known (c ∷ cs) = counters_behind (with_counter known c.counter) cs

abbrev pub counters_of : List Came → List ℕ
counters_of all = counters_behind [] all

-- it is counted as often as it came, and its first place is that of the first datagram that came with it
pub record IsCounted (all : List Came) (c : Count) : Type 0 where
  pub times : c.times ≡ u64_saturate (count_by (came_with c.counter) all)
  pub first : option_map (λ (x : Came). x.at) (find (came_with c.counter) all) ≡ Some c.first

-- did a datagram come with a counter that is not told apart
abbrev pub is_other : List Count → Came → Bool
is_other told c = not (list_any (has_counter c.counter) told)

-- the first eight counters are told apart, in the order in which they came first, and each is counted; the
-- others are counted together, and there are none before eight are told apart
pub record IsTally (all : List Came) (t : TallyRecord) : Type 0 where
  pub order : map (λ (c : Count). c.counter) t.told ≡ take MAX_COUNTERS (counters_of all)
  pub told : AllByRecursion (IsCounted all) t.told
  pub others : t.others ≡ u64_saturate (count_by (is_other t.told) all)
  pub first_eight : length t.told < MAX_COUNTERS → count_by (is_other t.told) all ≡ 0
  pub times : t.times ≡ u64_saturate (length all)

-- a counter once one more datagram came with this one
abbrev pub counts_again : ℕ → Count → Count
counts_again counter c =
    if c.counter == counter then record c { times = u64_saturate (c.times + 1) } else c
