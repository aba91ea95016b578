use Rattle.std.proofs.Common.{◌<◌, length}
use Rattle.ecat_serve.proofs.disturbed.earliest.Given as goal

abbrev pub invariant-loop-place : goal.invariant-loop-place
invariant-loop-place l = l.first < length l.waiting
