-- The first k items have the number.
use Rattle.std.proofs.Common.{◌≡◌, ◌++◌, map, take, drop}
use Rattle.ec_run.specs.Outputs.{numbered}
use Rattle.ec_run.proofs.outputs.number_all.Given as goal

abbrev pub invariant-loop-k : goal.invariant-loop-k
invariant-loop-k l = l.work ≡ map (numbered l.number) (take l.k l.initial.work) ++ drop l.k l.initial.work
