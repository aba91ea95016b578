-- Why a line with a work is not accepted: the first fault of the line, or on a fit line that of the first
-- item which goes where a cycle may not.
use Rattle.std.specs.Prelude.{ℕ, ◌<◌, List, length, take}
use Rattle.std.specs.List.{AllByRecursion}
use Rattle.ec_app.specs.State.{SlaveState}
use Rattle.ec_check.specs.Fit.{IsFit, IsFirstFault}
use Rattle.ec_check.specs.Line.{controllers}
use Rattle.ec_map.specs.Item.{ItemRecord}
use Rattle.ec_map.specs.Place.{IsPlaced, IsPlaceFault}
use Rattle.ec_map.specs.declared.place.PlaceFault.{PlaceFault}
use Rattle.ec_master.specs.Work.{nth_item}
use Rattle.ec_master.specs.declared.acceptance.Refusal.{Refusal}
use Rattle.ec_master.specs.declared.acceptance.Refusal.TheVariants.{Line, Item}

-- the item with a number is the first that goes where it may not, as the fault says
pub record IsFirstMisplaced (slaves : List SlaveState) (items : List ItemRecord) (k : ℕ) (fault : PlaceFault)
    : Type 0 where
  pub there : k < length items
  pub before : AllByRecursion (IsPlaced (controllers slaves)) (take k items)
  pub here : IsPlaceFault (controllers slaves) (nth_item items k) fault

abbrev pub IsRefusal : List SlaveState → List ItemRecord → Refusal → Type 0
IsRefusal slaves items (Line fault) = IsFirstFault (controllers slaves) fault
IsRefusal slaves items (Item k fault) =
    IsFit (controllers slaves) × IsFirstMisplaced slaves items k fault
