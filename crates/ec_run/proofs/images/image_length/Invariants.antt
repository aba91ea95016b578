use Rattle.std.proofs.Common.{◌≡◌, ◌≤◌, ◌+◌, ◌*◌, drop}
use Rattle.ec_run.specs.Outputs.{image_length}
use Rattle.ec_run.proofs.images.image_length.Given as goal

abbrev pub invariant-loop-k : goal.invariant-loop-k
invariant-loop-k l = record {
  bound : l.length ≤ 1486 * l.k;
  rest : l.length + image_length (drop l.k l.work) ≡ image_length l.work;
}
