use Rattle.std.proofs.Common.{◌≡◌}
use Rattle.ecat_replay.specs.Comparing.{compared_first}
use Rattle.ecat_replay.proofs.comparison.Comparison.compare.Given as goal

abbrev pub invariant-loop-k : goal.invariant-loop-k
invariant-loop-k l = l.self ≡ compared_first l.k l.trip l.there l.here l.fn.self
