-- What is listed of a capture: its packets, or its trips, by sums or each of their packets; and whether
-- somebody is told how far it is.
use Rattle.std.specs.Prelude.{Bool, true, false}
use Rattle.ecat_acts.specs.declared.listing.Wanted.{Wanted}
use Rattle.ecat_acts.specs.declared.listing.Wanted.TheVariants.{Packets, Trips}

abbrev pub are_trips : Wanted → Bool
are_trips (Packets asked) = false
are_trips (Trips asked) = true

abbrev pub tells_each : Wanted → Bool
tells_each (Packets asked) = false
tells_each (Trips asked) = asked.each

abbrev pub tells_progress : Wanted → Bool
tells_progress (Packets asked) = asked.progress
tells_progress (Trips asked) = asked.progress
