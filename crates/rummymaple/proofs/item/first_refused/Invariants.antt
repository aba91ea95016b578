-- No item before k is refused.
use Rattle.std.proofs.Common.{◌≡◌, ◌<◌, ℕ, None, Some}
use Rattle.std.specs.List.{slice_get}
use Rattle.rummymaple.specs.Items.{refusal}
use Rattle.rummymaple.specs.declared.item.Item.{Item}
use Rattle.rummymaple.proofs.item.first_refused.Given as goal

abbrev pub invariant-loop-k : goal.invariant-loop-k
invariant-loop-k l =
    (k : ℕ) (i : Item) → k < l.k → slice_get l.items k ≡ Some i → refusal l.size i ≡ None
