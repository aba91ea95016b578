-- The data of the first k items are in the image: what is left makes of the image now what all make of it at
-- first.
use Rattle.std.proofs.Common.{◌≡◌, length, drop}
use Rattle.rummymaple.specs.Turn.{taken_over}
use Rattle.rummymaple.proofs.cycle.take_items.Given as goal

abbrev pub invariant-loop-k : goal.invariant-loop-k
invariant-loop-k l = record {
  size : length l.image ≡ length l.initial.image;
  rest : taken_over (drop l.k l.items) l.waiting l.image ≡ taken_over l.items l.waiting l.initial.image;
}
