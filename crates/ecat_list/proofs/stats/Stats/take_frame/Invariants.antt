use Rattle.std.proofs.Common.{List, ◌++◌}
use Rattle.ecat_list.specs.Passed.{firsts_of}
use Rattle.ecat_list.specs.Stats.{IsStatsOf}
use Rattle.ecat_list.specs.declared.passed.Passed.{Passed}
use Rattle.ecat_list.proofs.stats.Stats.take_frame.Given as goal

-- the first k datagrams are taken
abbrev pub invariant-loop-k : goal.invariant-loop-k
invariant-loop-k l =
    (all : List Passed) → IsStatsOf all l.initial.self
    → IsStatsOf (all ++ firsts_of l.by_index l.seen l.sent l.came l.k) l.self
