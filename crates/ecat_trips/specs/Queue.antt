-- The numbers of the trips that are on the way.
use Rattle.std.specs.Prelude.{ℕ}
use Rattle.ecat_trips.specs.declared.trip.Trip.{Trip}
use Rattle.ecat_trips.specs.Alike.{told_fast}

-- what is told fast of the key of a trip
abbrev pub number_of_trip : Trip → ℕ
number_of_trip t = told_fast t.sent.frame
