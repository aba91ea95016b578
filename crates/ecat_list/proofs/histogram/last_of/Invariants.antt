use Rattle.std.proofs.Common.{◌≡◌, ◌+◌, drop}
use Rattle.ecat_list.specs.Histogram.{last_of}
use Rattle.ecat_list.proofs.histogram.last_of.Given as goal

abbrev pub invariant-loop-k : goal.invariant-loop-k
invariant-loop-k l =
    last_of l.fn.may l.fn.left l.fn.counts ≡ l.k + last_of l.fn.may l.left (drop l.k l.fn.counts)
