-- The first k items have begun the round.
use Rattle.std.proofs.Common.{◌≡◌, ◌++◌, map, take, drop}
use Rattle.ec_master.specs.Rounds.{begun}
use Rattle.ec_master.proofs.work.Work.begin_round.Given as goal

abbrev pub invariant-loop-k : goal.invariant-loop-k
invariant-loop-k l = l.self ≡ map (begun l.round) (take l.k l.initial.self) ++ drop l.k l.initial.self
