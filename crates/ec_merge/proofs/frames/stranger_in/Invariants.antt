use Rattle.std.proofs.Common.{◌≡◌, ℕ, ◌<◌, true}
use Rattle.ec_wire.specs.Datagram.{nth}
use Rattle.ec_merge.specs.Frames.{belongs}
use Rattle.ec_merge.proofs.frames.stranger_in.Given as goal

abbrev pub invariant-loop-k : goal.invariant-loop-k
invariant-loop-k l = (i : ℕ) → i < l.k → belongs (nth l.sent i) (nth l.copy i) ≡ true
