-- Whether a master's items hand each mapped area of outputs to its application whole, on a line before its
-- first cycle (IEC 61158-4-12, sync manager, buffered mode).
use Rattle.std.specs.Prelude.{ℕ, List}
use Rattle.ec_check.specs.Order.{IsBefore}
use Rattle.ec_check.specs.declared.records.Records.{Records}
use Rattle.ec_map.specs.NotShown.{IsNotShown, AreShown, not_shown_numbers}
use Rattle.ec_map.specs.declared.not_shown.NotShown.{NotShown}
use Rattle.ec_map.specs.declared.not_shown.WhyNotShown.{WhyNotShown}
use Rattle.ec_map.specs.declared.not_shown.WhyNotShown.TheVariants as reasons
use Rattle.rummymaple.specs.Asked.{requests, AreItems, IsFirstNone}
use Rattle.rummymaple.specs.Mapping.{line_of}
use Rattle.rummymaple.specs.Numbers.{number_of}
use Rattle.rummymaple.specs.declared.item.Item.{Item}
use Rattle.rummymaple.specs.declared.numbers.Code.{Code}
use Rattle.rummymaple.specs.declared.numbers.Code.TheVariants as codes
use Rattle.rummymaple.specs.declared.shown.ShownAnswer.{ShownAnswer}
use Rattle.rummymaple.specs.declared.shown.ShownEnd.{ShownEnd}
use Rattle.rummymaple.specs.declared.shown.ShownEnd.TheVariants as ends

-- this area is the first that is mapped and that the items do not show whole
pub record IsFirstNotShown (line : List Records) (items : List Item) (found : NotShown) : Type 0 where
  pub is_not_shown : IsNotShown (line_of line) (requests items) found
  pub first : (other : NotShown) → IsNotShown (line_of line) (requests items) other
      → ¬ IsBefore (not_shown_numbers other) (not_shown_numbers found)

-- how the search for such an area ends
abbrev pub IsShownEnd : List Records → List Item → ShownEnd → Type 0
IsShownEnd line items ends.Shown = AreItems items × AreShown (line_of line) (requests items)
IsShownEnd line items (ends.Unshown found) = AreItems items × IsFirstNotShown line items found
IsShownEnd line items (ends.NoItem at why) = IsFirstNone items at why

-- the item by which an area is left
abbrev pub left_by : WhyNotShown → ℕ
left_by (reasons.LeftBy item) = item
left_by reasons.NeverCompleted = 0

-- the code of why an area is not shown whole
abbrev pub why_code : WhyNotShown → Code
why_code (reasons.LeftBy item) = codes.LeftBy
why_code reasons.NeverCompleted = codes.NeverCompleted

-- the end in numbers
abbrev pub shown_answer : ShownEnd → ShownAnswer
shown_answer ends.Shown = record { at = 0; sync_manager = 0; item = 0; code = number_of codes.Good }
shown_answer (ends.Unshown found) = record {
  at = found.slave;
  sync_manager = found.sync_manager;
  item = left_by found.why;
  code = number_of (why_code found.why);
}
shown_answer (ends.NoItem at why) = record { at = at; sync_manager = 0; item = 0; code = number_of why }
