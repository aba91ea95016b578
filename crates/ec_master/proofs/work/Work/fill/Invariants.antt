-- The first k items are those of the other work.
use Rattle.std.proofs.Common.{◌≡◌, ◌++◌, take, drop}
use Rattle.ec_master.proofs.work.Work.fill.Given as goal

abbrev pub invariant-loop-k : goal.invariant-loop-k
invariant-loop-k l = l.self ≡ take l.k l.other ++ drop l.k l.initial.self
