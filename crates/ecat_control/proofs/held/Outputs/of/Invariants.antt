-- The first so many items have their outputs, and each is said to stand where they do.
use Rattle.std.proofs.Common.{◌≡◌, take, length}
use Rattle.ecat_control.specs.Changes.{outputs_in, spans_in}
use Rattle.ecat_control.proofs.held.Outputs.of.Given as goal

abbrev pub invariant-loop-k : goal.invariant-loop-k
invariant-loop-k l = record {
  spans : l.spans.items ≡ spans_in 0 (take l.k l.work);
  bytes : l.bytes.items ≡ outputs_in (take l.k l.work);
  count : length l.spans.items ≡ l.k;
}
