-- What is known of a master's items on a line before its first cycle: where each may go, by how much its
-- counter moves, and whether they ask for all that is mapped.
use Rattle.std.specs.Prelude.{◌≡◌, ◌<◌, ℕ, Option, None, Some, List, replicate, slice_get}
use Rattle.std.specs.Option.{option_map}
use Rattle.ec_check.specs.Order.{IsBefore}
use Rattle.ec_wire.specs.declared.kind.Kind.{Kind}
use Rattle.ec_map.specs.Covered.{IsGap, IsCovered, gap_numbers, way_number}
use Rattle.ec_map.specs.Item.{ItemRecord, item_fault, items_by, new_item}
use Rattle.ec_map.specs.Place.{IsPlaced, IsPlaceFault}
use Rattle.ec_map.specs.Share.{expected_of}
use Rattle.ec_map.specs.declared.covered.Gap.{Gap}
use Rattle.ec_map.specs.declared.kind.ItemFault.{ItemFault}
use Rattle.ec_map.specs.declared.kind.ItemFault.TheVariants as faults
use Rattle.ec_map.specs.declared.place.PlaceFault.TheVariants as places
use Rattle.rummymaple.specs.Items.{kind_of, kind_named}
use Rattle.rummymaple.specs.Mapping.{line_of}
use Rattle.rummymaple.specs.Numbers.{number_of}
use Rattle.rummymaple.specs.declared.asked.Expectation.{Expectation}
use Rattle.rummymaple.specs.declared.asked.PlaceEnd.{PlaceEnd}
use Rattle.rummymaple.specs.declared.asked.PlaceEnd.TheVariants.{Placed, Outside, NoItem}
use Rattle.rummymaple.specs.declared.covered.GapAnswer.{GapAnswer}
use Rattle.rummymaple.specs.declared.covered.GapEnd.{GapEnd}
use Rattle.rummymaple.specs.declared.covered.GapEnd.TheVariants as gaps
use Rattle.rummymaple.specs.declared.item.Item.{Item}
use Rattle.rummymaple.specs.declared.judge.ItemAnswer.{ItemAnswer}
use Rattle.rummymaple.specs.declared.numbers.Code.{Code}
use Rattle.rummymaple.specs.declared.numbers.Code.TheVariants as codes
use Rattle.ec_check.specs.declared.records.Records.{Records}

-- what an item asks, whatever its data
abbrev pub request : Item → ItemRecord
request i = new_item (kind_named i.kind) i.address (replicate i.length 0)

-- the code of why there is no item
abbrev pub item_code : ItemFault → Code
item_code faults.BadLength = codes.BadLength
item_code faults.BadRange = codes.BadRange

-- why there is no item of this kind that asks it
abbrev pub request_fault_of : Item → Option Kind → Option Code
request_fault_of i None = Some codes.BadKind
request_fault_of i (Some kind) = option_map item_code (item_fault kind i.address i.length)

-- why there is no item that asks it
abbrev pub request_fault : Item → Option Code
request_fault i = request_fault_of i (kind_of i.kind)

-- ---- where an item may go

-- how the check of an item ends
abbrev pub IsPlaceEnd : List Records → Item → PlaceEnd → Type 0
IsPlaceEnd line i Placed = (request_fault i ≡ None) × IsPlaced (line_of line) (request i)
IsPlaceEnd line i (Outside fault) = (request_fault i ≡ None) × IsPlaceFault (line_of line) (request i) fault
IsPlaceEnd line i (NoItem code) = request_fault i ≡ Some code

-- it in numbers
abbrev pub place_answer : PlaceEnd → ItemAnswer
place_answer Placed = record { at = 0; code = number_of codes.Good }
place_answer (Outside (places.OutsideRead slave address)) =
    record { at = slave; code = number_of codes.OutsideRead }
place_answer (Outside (places.OutsideWrite slave address)) =
    record { at = slave; code = number_of codes.OutsideWrite }
place_answer (NoItem code) = record { at = 0; code = number_of code }

-- ---- by how much its counter moves

-- what is expected of an item, or why there is none
abbrev pub expectation : List Records → Item → Option Code → Expectation
expectation line i None =
    record { counter = expected_of (line_of line) (request i); code = number_of codes.Good }
expectation line i (Some code) = record { counter = 0; code = number_of code }

-- ---- whether items ask for all that is mapped

-- what items ask
abbrev pub requests : List Item → List ItemRecord
requests items = items_by request items

-- each item is one
abbrev pub AreItems : List Item → Type 0
AreItems items = (k : ℕ) (i : Item) → slice_get items k ≡ Some i → request_fault i ≡ None

-- this item is the first that is none
pub record IsFirstNone (items : List Item) (at : ℕ) (why : Code) : Type 0 where
  pub item : Item
  pub there : slice_get items at ≡ Some item
  pub why_is : request_fault item ≡ Some why
  pub before : (k : ℕ) (i : Item) → k < at → slice_get items k ≡ Some i → request_fault i ≡ None

-- this bit is the first that is mapped and that no item asks for
pub record IsFirstGap (line : List Records) (items : List Item) (gap : Gap) : Type 0 where
  pub is_gap : IsGap (line_of line) (requests items) gap
  pub first : (other : Gap) → IsGap (line_of line) (requests items) other
      → ¬ IsBefore (gap_numbers other) (gap_numbers gap)

-- how the search for a bit that no item asks for ends
abbrev pub IsGapEnd : List Records → List Item → GapEnd → Type 0
IsGapEnd line items gaps.Covered = AreItems items × IsCovered (line_of line) (requests items)
IsGapEnd line items (gaps.Uncovered gap) = AreItems items × IsFirstGap line items gap
IsGapEnd line items (gaps.NoItem at why) = IsFirstNone items at why

-- it in numbers
abbrev pub gap_answer : GapEnd → GapAnswer
gap_answer gaps.Covered = record { at = 0; fmmu = 0; bit = 0; way = 0; code = number_of codes.Good }
gap_answer (gaps.Uncovered gap) = record {
  at = gap.slave;
  fmmu = gap.fmmu;
  bit = gap.bit;
  way = way_number gap.way;
  code = number_of codes.NotAsked;
}
gap_answer (gaps.NoItem at why) = record { at = at; fmmu = 0; bit = 0; way = 0; code = number_of why }
