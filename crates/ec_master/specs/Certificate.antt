-- What the working counters of a cycle certify: the verdict by counts of passes, and what it promises of the
-- slaves by their stations.
use Rattle.std.specs.Prelude.{◌≡◌, ◌≤◌, ℕ, suc, ◌==◌, nat_lt, nat_le, ◌||◌, false, if◌then◌else◌, Option}
use Rattle.std.specs.Prelude.{List, [], ◌∷◌, ◌++◌, map, slice_get, slice_index, sum_by}
use Rattle.std.specs.Option.{option_map}
use Rattle.ec_esc.specs.State.{ControllerState}
use Rattle.ec_app.specs.State.{SlaveState, ApplicationState}
use Rattle.ec_line.specs.After.{Entry, after_frame}
use Rattle.ec_line.specs.Trip.{Trip, returned}
use Rattle.ec_map.specs.Item.{ItemRecord}
use Rattle.ec_map.specs.Share.{share, expected_of}
use Rattle.ec_ring.specs.Links.{is_up, IsOnlyDown}
use Rattle.ec_ring.specs.Ring.{RingState, line_of}
use Rattle.ec_ring.specs.declared.weather.Weather.{Weather}
use Rattle.ec_master.specs.Travelled.{answers_under}
use Rattle.ec_master.specs.Unordered.{ByStation}
use Rattle.ec_master.specs.Verdict.{verdict}
use Rattle.ec_master.specs.declared.verdict.Verdict.{Verdict}
use Rattle.ec_master.specs.declared.verdict.Verdict.TheVariants.{Good, Short, Over}

-- ---- the verdict by counts

-- the trip that carries each entry
unfoldable pub carriers : List Trip → List Trip
carriers [] = []
carriers (t ∷ ts) = map (λ (e : Entry). t) t.entries ++ carriers ts

-- what an item's counter gains on a trip: each slave's share, as often as a copy that came back has passed it
abbrev pub count_of : ItemRecord → Trip → List ControllerState → ℕ
count_of r t line = sum_by (share r) (returned t line)

-- what it gains where each slave is passed once
abbrev pub whole_count : ItemRecord → List ControllerState → ℕ
whole_count r line = sum_by (share r) line

-- the first item, from number k on, whose slaves were not passed as if each were passed once
unfoldable pub counts_from : ℕ → List ItemRecord → List Trip → List ControllerState → Verdict
counts_from k (r ∷ rs) (t ∷ ts) line =
    let count = count_of r t line in let whole = whole_count r line
    in if count == whole then counts_from (suc k) rs ts line else
    if nat_lt count whole then Short k else Over k
counts_from k _ _ line = Good

abbrev pub verdict_by_counts : List Trip → List ItemRecord → List ControllerState → Verdict
verdict_by_counts ts items line = counts_from 0 items (carriers ts) line

-- the master's verdict on a cycle
abbrev pub verdict_under : List Weather → RingState → List ItemRecord → Verdict
verdict_under ws r items = verdict items (answers_under ws r items) (map (expected_of (line_of r)) items)

-- ---- slaves by their stations

abbrev pub memory_at : ByStation → ℕ → Option (List ℕ)
memory_at slaves n = option_map (λ (s : SlaveState). s.controller.memory) (slaves n)

abbrev pub application_at : ByStation → ℕ → Option ApplicationState
application_at slaves n = option_map (λ (s : SlaveState). s.application) (slaves n)

-- a byte of process memory that the application is shown, the first one for number 0
abbrev pub shown_at : ByStation → ℕ → ℕ → Option ℕ
shown_at slaves k n = option_map (λ (s : SlaveState). slice_index s.controller.shown k) (slaves n)

-- ---- slaves by their places

-- the entries of those trips of which a copy reached the place, lost on its way back or not
unfoldable pub entries_at : List Trip → ℕ → List Entry
entries_at [] k = []
entries_at (t ∷ ts) k = (if nat_lt k t.front || nat_le t.back k then t.entries else []) ++ entries_at ts k

-- the memory of the slave at a place
abbrev pub memory_in : List SlaveState → ℕ → Option (List ℕ)
memory_in slaves k = option_map (λ (s : SlaveState). s.controller.memory) (slice_get slaves k)

-- the memory of the slave at a place behind the entries of those trips of which a copy reached it, each once
abbrev pub reached_memory : List Trip → ℕ → SlaveState → List ℕ
reached_memory ts k s = (after_frame (entries_at ts k) s.controller).memory

-- ---- weathers

-- both copies travel under the same links of a line of n slaves, of which at most one is down, and come back
pub record IsOneDown (n : ℕ) (w : Weather) : Type 0 where
  pub same : (k : ℕ) → k ≤ n → is_up w.b k ≡ is_up w.a k
  pub link : ℕ
  pub only : IsOnlyDown w.a n link
  pub came_a : w.lost_a ≡ false
  pub came_b : w.lost_b ≡ false
