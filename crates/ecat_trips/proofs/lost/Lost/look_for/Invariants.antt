use Rattle.std.proofs.Common.{◌≡◌, ◌<◌, ℕ, false, get_or}
use Rattle.ecat_trips.specs.declared.trip.SentFrame.{SentFrame}
use Rattle.ecat_trips.specs.Trip.{bears}
use Rattle.ecat_trips.proofs.lost.Lost.look_for.Given as goal

abbrev pub invariant-loop-i : goal.invariant-loop-i
invariant-loop-i l =
    (k : ℕ) (t : SentFrame) → k < l.i → bears l.frame (get_or l.self k t) ≡ false
