-- What the lines of an input make of outputs that were taken between two cycles.
use Rattle.std.specs.Prelude.{◌≡◌, ◌≤◌, ℕ, Bool, true, false, Option, None, Some, List, length, Ok}
use Rattle.ecat_control.specs.declared.answer.Answer.{Answer}
use Rattle.ecat_control.specs.declared.answer.Answer.TheVariants.{Set as IsSet}
use Rattle.ecat_control.specs.Changes.{Made, changed_by}
use Rattle.ecat_control.specs.declared.held.Outputs.{Outputs}
use Rattle.ecat_control.specs.declared.task.TheConstants.{MOST_LINES}

-- outputs are what so many changes made of them, each of which is whole
pub record AreSet (most : ℕ) (before later : Outputs) : Type 0 where
  pub changes : List Made
  pub fewer : length changes ≤ most
  pub made : changed_by before.spans.items changes before.bytes.items ≡ Ok later.bytes.items

-- they became others by so many lines at the most, or they stay
abbrev pub BecomeBy : ℕ → Outputs → Bool → Outputs → Type 0
BecomeBy most before true later = AreSet most before later
BecomeBy most before false later = later.bytes.items ≡ before.bytes.items

-- by those that are taken between two cycles
abbrev pub Become : Outputs → Bool → Outputs → Type 0
Become before are_others later = BecomeBy MOST_LINES before are_others later × (later.spans ≡ before.spans)

-- has a line set outputs, by what it is answered by
abbrev pub is_set : Answer → Bool
is_set IsSet = true
is_set _ = false

-- and one that was taken, if one was
abbrev pub has_set : Option Bool → Bool
has_set (Some set) = set
has_set None = false
