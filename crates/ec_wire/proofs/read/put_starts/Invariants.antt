use Rattle.std.proofs.Common.{◌-◌, length}
use Rattle.ec_wire.specs.Frame.{records_at}
use Rattle.ec_wire.proofs.ReadLemmas.{Reached}
use Rattle.ec_wire.proofs.read.put_starts.Given as goal

abbrev pub invariant-loop-ahead : goal.invariant-loop-ahead
invariant-loop-ahead l = Reached l.frame l.at l.starts.items (records_at l.frame l.starts.items)

abbrev pub decreases-loop-ahead : goal.decreases-loop-ahead
decreases-loop-ahead l = length l.frame - l.at
