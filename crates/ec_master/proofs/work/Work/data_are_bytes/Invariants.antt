-- The data of the first k of them are bytes.
use Rattle.std.proofs.Common.{ℕ, ◌<◌}
use Rattle.ec_master.specs.Unordered.{HasBytes}
use Rattle.ec_master.specs.Work.{nth_item}
use Rattle.ec_master.proofs.work.Work.data_are_bytes.Given as goal

abbrev pub invariant-loop-k : goal.invariant-loop-k
invariant-loop-k l = (i : ℕ) → i < l.k → HasBytes (nth_item l.self i)
