-- The data of the first j datagrams are stored: what is left makes of the image now what all make of it at
-- first.
use Rattle.std.proofs.Common.{◌≡◌, ◌+◌, length, drop}
use Rattle.rummymaple.specs.Answers.{stored}
use Rattle.rummymaple.proofs.answered.store_items.Given as goal

abbrev pub invariant-loop-j : goal.invariant-loop-j
invariant-loop-j l = record {
  size : length l.image ≡ length l.initial.image;
  rest : stored (drop (l.first + l.j) l.items) (drop l.j l.frame) l.image
      ≡ stored (drop l.first l.items) l.frame l.initial.image;
}
