-- The items before k are on the frame.
use Rattle.std.proofs.Common.{ℕ, List, ◌<◌, ◌≤◌, length}
use Rattle.rummymaple.proofs.CutLemmas.{IsFilling}
use Rattle.rummymaple.specs.Items.{AreTaken}
use Rattle.rummymaple.proofs.cut.carried_from.Given as goal

abbrev pub invariant-loop-k : goal.invariant-loop-k
invariant-loop-k l = record {
  filling : (image : List ℕ) → AreTaken (length image) l.items
      → IsFilling image l.items l.first l.k l.bytes;
  ordered : l.first < l.k;
  inside : l.k ≤ length l.items;
  bytes : l.bytes ≤ 65547;
}
