use Rattle.std.proofs.Common.{◌≡◌, ◌<◌, ℕ, false, get_or}
use Rattle.ecat_trips.specs.declared.trip.Trip.{Trip}
use Rattle.ecat_trips.specs.Steps.{bears_trip}
use Rattle.ecat_trips.proofs.queue.Queue.look_for.Given as goal

abbrev pub invariant-loop-i : goal.invariant-loop-i
invariant-loop-i l =
    (k : ℕ) (t : Trip) → k < l.i → bears_trip l.frame (get_or l.self k t) ≡ false
