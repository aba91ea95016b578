-- Each item before k is one.
use Rattle.std.proofs.Common.{◌≡◌, ◌<◌, ℕ, None, Some}
use Rattle.std.specs.List.{slice_get}
use Rattle.rummymaple.specs.Asked.{request_fault}
use Rattle.rummymaple.specs.declared.item.Item.{Item}
use Rattle.rummymaple.proofs.covered.first_none.Given as goal

abbrev pub invariant-loop-k : goal.invariant-loop-k
invariant-loop-k l = (k : ℕ) (i : Item) → k < l.k → slice_get l.items k ≡ Some i → request_fault i ≡ None
