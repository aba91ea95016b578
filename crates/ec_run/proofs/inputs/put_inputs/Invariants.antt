use Rattle.std.proofs.Common.{◌≡◌, ◌≤◌, ◌*◌, take, length}
use Rattle.ec_run.specs.Inputs.{inputs_of}
use Rattle.ec_run.proofs.inputs.put_inputs.Given as goal

abbrev pub invariant-loop-k : goal.invariant-loop-k
invariant-loop-k l = record {
  so_far : l.into.items ≡ inputs_of (take l.k l.work);
  size : length l.into.items ≤ 1486 * l.k;
}
