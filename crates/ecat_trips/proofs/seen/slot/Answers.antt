use Rattle.std.proofs.Common.{refl}
use Rattle.ecat_trips.specs.Seen.{slot}
use Rattle.ecat_trips.proofs.seen.slot.Goals as goal

pub returns-clause-value : goal.returns-clause-value
unfolding slot
returns-clause-value c = refl
