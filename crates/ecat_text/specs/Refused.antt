-- When a line or items on it are refused: whatever it is that tells how each slave is mapped.
use Rattle.std.specs.Prelude.{ℕ, ◌<◌, List, length, take}
use Rattle.std.specs.List.{AllByRecursion}
use Rattle.ec_esc.specs.State.{ControllerState}
use Rattle.ec_check.specs.Fit.{IsFit, IsFirstFault}
use Rattle.ec_map.specs.Item.{ItemRecord}
use Rattle.ec_map.specs.Place.{IsPlaced, IsPlaceFault}
use Rattle.ec_map.specs.declared.place.PlaceFault.{PlaceFault}
use Rattle.ec_master.specs.Work.{nth_item}
use Rattle.ec_master.specs.declared.acceptance.Refusal.{Refusal}
use Rattle.ec_master.specs.declared.acceptance.Refusal.TheVariants.{Line, Item}

-- each item goes where a cycle may
abbrev pub ArePlaced : List ControllerState → List ItemRecord → Type 0
ArePlaced line items = AllByRecursion (IsPlaced line) items

-- the line is fit, and each item goes where a cycle may
pub record AreTaken (line : List ControllerState) (items : List ItemRecord) : Type 0 where
  pub fit : IsFit line
  pub placed : ArePlaced line items

-- the item with a number is the first that goes where it may not, as the fault says
pub record IsFirstOutside (line : List ControllerState) (items : List ItemRecord) (k : ℕ) (fault : PlaceFault)
    : Type 0 where
  pub there : k < length items
  pub before : ArePlaced line (take k items)
  pub here : IsPlaceFault line (nth_item items k) fault

-- the first fault of the line, or on a fit line that of the first item which goes where a cycle may not
abbrev pub IsRefusedFor : List ControllerState → List ItemRecord → Refusal → Type 0
IsRefusedFor line items (Line fault) = IsFirstFault line fault
IsRefusedFor line items (Item k fault) = IsFit line × IsFirstOutside line items k fault
