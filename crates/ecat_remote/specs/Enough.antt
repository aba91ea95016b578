-- When nothing is gained by waiting on for a copy: the other one alone came, with each counter that is
-- expected.
use Rattle.std.specs.Prelude.{◌≡◌, ℕ, ◌+◌, Bool, ◌&&◌, ◌||◌, not, if◌then◌else◌, nat_le, List, [], length}
use Rattle.std.specs.Prelude.{map, take, drop, Option, None, Some}
use Rattle.std.specs.Option.{option_map, is_some}
use Rattle.ec_wire.specs.Datagram.{DatagramRecord}
use Rattle.ecat_remote.specs.Taken.{opened_copy}
use Rattle.ecat_remote.specs.declared.copies.NumberedCopy.{NumberedCopy}
use Rattle.ec_ring.specs.declared.port.Port.{Port}
use Rattle.ec_ring.specs.declared.port.Port.TheVariants.{A, B}
use Rattle.ecat_remote.specs.declared.enough.Both.{Both}
use Rattle.ecat_remote.specs.declared.enough.Awaited.{Awaited}

-- the counters of a copy's datagrams in their order, that of the number's NOP not among them
abbrev pub counters_of : NumberedCopy → List ℕ
counters_of copy = map (λ (d : DatagramRecord). d.counter) (opened_copy copy)

-- the one of two that came alone
abbrev pub alone : Option NumberedCopy → Option NumberedCopy → Option NumberedCopy
alone None None = None
alone (Some copy) None = Some copy
alone None (Some copy) = Some copy
alone (Some copy) (Some other) = None

-- one copy came alone, and its counters are those that are expected
abbrev pub IsEnough : List ℕ → Both → Type 0
IsEnough expected both = option_map counters_of (alone both.a both.b) ≡ Some expected

-- the counters that are expected of the next datagrams of a cycle, behind so many of it; none where fewer are
-- left, or between cycles
abbrev pub next_counters : Option (List ℕ) → Option ℕ → ℕ → List ℕ
next_counters (Some counters) (Some gone) count =
    if nat_le (gone + count) (length counters) then take count (drop gone counters) else []
next_counters (Some counters) None count = []
next_counters None _ count = []

-- both copies came
abbrev pub have_come : Both → Bool
have_come both = is_some both.a && is_some both.b

-- is a copy awaited at a port?
abbrev pub awaits : Awaited → Port → Bool
awaits awaited A = awaited.a
awaits awaited B = awaited.b

-- each copy came that is awaited
abbrev pub have_come_at : (Port → Bool) → Both → Bool
have_come_at at both = (not (at A) || is_some both.a) && (not (at B) || is_some both.b)

-- a copy that came stays
pub record Keeps (both later : Both) : Type 0 where
  pub a : (copy : NumberedCopy) → both.a ≡ Some copy → later.a ≡ Some copy
  pub b : (copy : NumberedCopy) → both.b ≡ Some copy → later.b ≡ Some copy
