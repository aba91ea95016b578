-- The first k counters are added.
use Rattle.std.proofs.Common.{◌≡◌}
use Rattle.ec_run.specs.Tally.{moved, total_of}
use Rattle.ec_run.proofs.tally.total_of.Given as goal

abbrev pub invariant-loop-k : goal.invariant-loop-k
invariant-loop-k l = l.total ≡ total_of (moved l.sent l.copy) l.k
