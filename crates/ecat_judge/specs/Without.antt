-- A trip that passed a line without what is missing: each counter moved as far as all the other shares give.
use Rattle.std.specs.Prelude.{◌≡◌, ℕ, ◌-◌, ◌*◌, ◌<◌, true, false, Some, List, map, length}
use Rattle.std.specs.Prelude.{slice_index_or}
use Rattle.ec_esc.specs.State.{ControllerState}
use Rattle.ec_map.specs.Item.{ItemRecord}
use Rattle.ec_map.specs.Share.{share, expected_of}
use Rattle.ecat_judge.specs.declared.share.Share.{Share}
use Rattle.ecat_judge.specs.declared.share.Missing.{Missing}
use Rattle.ecat_judge.specs.declared.evidence.Row.{Row}
use Rattle.ecat_judge.specs.declared.evidence.Evidence.{Evidence}
use Rattle.ecat_judge.specs.Share.{whole, share_at, part_at, sum_below}
use Rattle.ecat_judge.specs.Evidence.{has_size, was_seen}

-- the shares are those of the controllers of a line in the counter of an item
abbrev pub AreShares : List ControllerState → ItemRecord → List Share → Type 0
AreShares line item shares = map whole shares ≡ map (share item) line

-- what the slave at a place adds where this is missing, and all of them
unfoldable pub rest_at : Missing → List Share → ℕ → ℕ
rest_at missing shares place = whole (share_at shares place) - part_at missing shares place

unfoldable pub rest : Missing → List Share → ℕ
rest missing shares = sum_below (rest_at missing shares) (length shares)

-- a row tells of an item that its counter moved so far
abbrev pub IsShortOf : List ControllerState → ItemRecord → Missing → Row → Type 0
IsShortOf line item missing row =
    (n : ℕ) → row.short ≡ Some n → n ≡ expected_of line item - rest missing row.shares.items

-- what bad trips tell that all passed the line without what is missing: the items are short by what the
-- others give, no slave whose inputs are missing changed a bit, and an ADP tells as many as are missing
pub record WentWithout (line : List ControllerState) (items : ℕ → ItemRecord) (missing : Missing)
    (e : Evidence) : Type 0 where
  pub size : 3 * length line < 65536
  pub shares : (k : ℕ) (d : Row) → k < length e.rows.items
      → AreShares line (items k) (slice_index_or e.rows.items k d).shares.items
  pub counters : (k : ℕ) (d : Row) → k < length e.rows.items
      → IsShortOf line (items k) missing (slice_index_or e.rows.items k d)
  pub unseen : was_seen missing e.passed.items ≡ false
  pub gone : has_size missing e.gone ≡ true
