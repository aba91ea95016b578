use Rattle.ec_ring.proofs.TripLemmas.{travelled-trip}
use Rattle.ec_ring.proofs.promises.trip_passes.Goals as goal

pub returns : goal.returns
returns c = travelled-trip
