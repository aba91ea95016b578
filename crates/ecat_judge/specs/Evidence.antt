-- What bad trips tell of what was missing: how short each item was, which slaves were seen, and how many were
-- gone.
use Rattle.std.specs.Prelude.{ℕ, zero, suc, ◌-◌, ◌==◌, ◌&&◌, ◌||◌, Bool, true, false, not}
use Rattle.std.specs.Prelude.{Option, None, Some}
use Rattle.std.specs.Prelude.{List, length, slice_index_or}
use Rattle.std.specs.List.{list_all}
use Rattle.ecat_judge.specs.declared.share.Share.{Share}
use Rattle.ecat_judge.specs.declared.share.Missing.{Missing}
use Rattle.ecat_judge.specs.declared.share.Missing.TheVariants.{Slaves, Inputs, Outputs, Two}
use Rattle.ecat_judge.specs.declared.evidence.Row.{Row}
use Rattle.ecat_judge.specs.declared.evidence.Evidence.{Evidence}
use Rattle.ecat_judge.specs.Share.{has_inputs_of, lacking}

-- an item is as short as it is where this is missing
abbrev pub explains_by : Option ℕ → Missing → List Share → Bool
explains_by None missing shares = true
explains_by (Some short) missing shares = lacking missing shares == short

abbrev pub explains : Missing → Row → Bool
explains missing row = explains_by row.short missing row.shares.items

-- a slave whose inputs are missing changed a bit that it reads
unfoldable pub is_seen_at : Missing → List Bool → ℕ → Bool
is_seen_at missing passed place = slice_index_or passed place false && has_inputs_of missing place

-- one of the places below n passes a test
unfoldable pub any_below : (ℕ → Bool) → ℕ → Bool
any_below test zero = false
any_below test (suc n) = any_below test n || test n

abbrev pub was_seen : Missing → List Bool → Bool
was_seen missing passed = any_below (is_seen_at missing passed) (length passed)

-- as many slaves are gone as an ADP tells; of a slave of which a half is missing none is
abbrev pub size_of : Missing → ℕ
size_of (Slaves from to) = to - from
size_of (Inputs slave) = 0
size_of (Outputs slave) = 0
size_of (Two one other) = 2

abbrev pub has_size : Missing → Option ℕ → Bool
has_size missing None = true
has_size missing (Some gone) = size_of missing == gone

-- this fits as what is missing
abbrev pub fits : Missing → Evidence → Bool
fits missing e =
    has_size missing e.gone && not (was_seen missing e.passed.items)
    && list_all (explains missing) e.rows.items
