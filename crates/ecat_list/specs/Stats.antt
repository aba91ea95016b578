-- What is told of all datagrams of a capture: of each group of them what was sent, what came back and what
-- did not, each with its working counters, and how many are of further groups than are told apart.
use Rattle.std.specs.Prelude.{◌≡◌, ℕ, ◌-◌, ◌<◌, Bool, ◌==◌, ◌&&◌, if◌then◌else◌, Option, Some}
use Rattle.std.specs.Prelude.{List, [], ◌∷◌, ◌++◌, map, filter, count_by, is_none, slice_get}
use Rattle.std.specs.Io.Iter.{u64_saturate}
use Rattle.indexmap.specs.IndexMap.{get, index_map_len}
use Rattle.ecat_list.specs.Passed.{is_sent, is_returned, is_lost, is_late, is_astray}
use Rattle.ecat_list.specs.Tally.{IsTally}
use Rattle.ecat_list.specs.declared.group.Group.{Group}
use Rattle.ecat_list.specs.declared.passed.Key.{Key}
use Rattle.ecat_list.specs.declared.passed.Passed.{Passed}
use Rattle.ecat_list.specs.declared.passed.What.{What}
use Rattle.ecat_list.specs.declared.stats.TheConstants.{MAX_GROUPS}
use Rattle.ecat_list.specs.declared.stats.Stats.{Stats}
use Rattle.ecat_list.specs.declared.counters.Came.{Came}

-- ---- a group

-- how a datagram came
abbrev pub counted_at : Passed → Came
counted_at p = record { counter = p.counter; at = p.seen.at }

-- of a group's datagrams those of each kind, and what they are once there is one more
abbrev pub with_passed : Passed → ((What → Bool) → List Came) → (What → Bool) → List Came
with_passed p all is = if is p.seen.what then all is ++ counted_at p ∷ [] else all is

-- a group has the tallies of its datagrams: apart what was sent, what came back, what was lost, what came
-- late, and what came of nothing that was sent
pub record IsGroup (all : (What → Bool) → List Came) (g : Group) : Type 0 where
  pub sent : IsTally (all is_sent) g.sent
  pub back : IsTally (all is_returned) g.back
  pub lost : IsTally (all is_lost) g.lost
  pub late : IsTally (all is_late) g.late
  pub astray : IsTally (all is_astray) g.astray

-- how many were sent, and neither came back nor were lost
abbrev pub on_the_way : Group → ℕ
on_the_way g = g.sent.times - g.back.times - g.lost.times

-- ---- all groups

-- have two datagrams the same command, address, length and index
abbrev pub same_key : Key → Key → Bool
same_key a b =
    (a.code == b.code) && ((a.address == b.address) && ((a.length == b.length) && (a.index == b.index)))

-- the group of a key, if there is one
abbrev pub group_of : Stats → Key → Option Group
group_of s key = get same_key s.groups key

-- how the datagrams of a key came of which something became
abbrev pub datagrams_of : Key → List Passed → (What → Bool) → List Came
datagrams_of key all is =
    map counted_at (filter (λ (p : Passed). same_key p.key key && is p.seen.what) all)

-- is there no group of this datagram
abbrev pub is_left_out : Stats → Passed → Bool
is_left_out s p = is_none (group_of s p.key)

-- each group that is told apart has the tallies of its datagrams; the others are counted together, and there
-- are none before 4,096 groups are told apart
pub record IsStatsOf (all : List Passed) (s : Stats) : Type 0 where
  pub groups : (key : Key) (g : Group) → group_of s key ≡ Some g → IsGroup (datagrams_of key all) g
  pub left_out : s.left_out ≡ u64_saturate (count_by (is_left_out s) all)
  pub all_told : index_map_len s.groups < MAX_GROUPS → count_by (is_left_out s) all ≡ 0

-- is the group of this key the one at this place, in the order of their first datagrams
pub record IsAt (s : Stats) (place : ℕ) (key : Key) : Type 0 where
  pub group : Group
  pub stands : slice_get s.groups.entries place ≡ Some (key, group)
  pub has : group_of s key ≡ Some group
