use Rattle.std.proofs.Common.{◌≡◌, ◌≤◌, length}
use Rattle.std.specs.Vec.{vec_capacity}
use Rattle.ecat_trips.specs.declared.lost.TheConstants.{MAX_LOST}
use Rattle.ecat_trips.proofs.lost.places.Given as goal

abbrev pub invariant-loop : goal.invariant-loop
invariant-loop l = (length l.places.items ≡ l.counter) × (MAX_LOST ≤ vec_capacity l.places)
