-- The first k items are made, what is left of the image makes the others, and these are as they were.
use Rattle.std.proofs.Common.{◌≡◌, ◌++◌, take, drop, length}
use Rattle.ec_run.specs.Outputs.{filled}
use Rattle.ec_run.proofs.outputs.fill_all.Given as goal

abbrev pub invariant-loop-k : goal.invariant-loop-k
invariant-loop-k l = record {
  size : length l.work ≡ length l.initial.work;
  others : drop l.k l.work ≡ drop l.k l.initial.work;
  goes_on : take l.k l.work ++ filled l.rest (drop l.k l.initial.work) ≡ filled l.image l.initial.work;
}
