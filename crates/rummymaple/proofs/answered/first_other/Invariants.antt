-- The datagrams before j are answers of their items.
use Rattle.std.proofs.Common.{◌≡◌, ◌<◌, ◌+◌, ℕ, true, Some}
use Rattle.std.specs.List.{slice_get}
use Rattle.ec_wire.specs.Datagram.{nth}
use Rattle.rummymaple.specs.Answers.{answers}
use Rattle.rummymaple.specs.declared.item.Item.{Item}
use Rattle.rummymaple.proofs.answered.first_other.Given as goal

abbrev pub invariant-loop-j : goal.invariant-loop-j
invariant-loop-j l =
    (m : ℕ) (i : Item) → m < l.j → slice_get l.items (l.first + m) ≡ Some i
    → answers i (l.first + m) (nth l.frame m) ≡ true
