use Rattle.std.proofs.Common.{◌≡◌, ◌++◌, map, take, drop}
use Rattle.ecat_list.specs.Tally.{counts_again}
use Rattle.ecat_list.proofs.counters.count_again.Given as goal

abbrev pub invariant-loop-count : goal.invariant-loop-count
invariant-loop-count l =
    l.told ≡ map (counts_again l.counter) (take l.count-index l.fn.told) ++ drop l.count-index l.fn.told
