-- How many trips and copies there were, each number up to 2^64 - 1.
use Rattle.std.specs.Prelude.{ℕ, ◌+◌, is_some, if◌then◌else◌}
use Rattle.std.specs.Io.Iter.{u64_saturate}
use Rattle.ecat_trips.specs.declared.trip.Trip.{Trip}
use Rattle.ecat_trips.specs.declared.sums.Sums.{Sums}
use Rattle.ecat_trips.specs.declared.trips.Fate.{Fate}
use Rattle.ecat_trips.specs.declared.trips.Fate.TheVariants.{Begins, Replaces, Second, Back, Closes, Late}
use Rattle.ecat_trips.specs.declared.trips.Fate.TheVariants.{Stray}
use Rattle.ecat_trips.specs.declared.trips.Step.{Step}
use Rattle.ecat_trips.specs.declared.trips.Step.TheVariants.{Ended, Taken}

-- one more
abbrev pub more : ℕ → ℕ
more n = u64_saturate (n + 1)

-- a trip ended: with a copy that came back, or lost
abbrev pub counted_trip : Trip → Sums → Sums
counted_trip t s =
    if is_some t.back then record s { returned = more s.returned } else record s { lost = more s.lost }

-- a packet was taken
abbrev pub counted_fate : Fate → Sums → Sums
counted_fate Begins s = record s { sent = more s.sent }
counted_fate (Replaces t) s = counted_trip t (record s { sent = more s.sent })
counted_fate (Second began) s = s
counted_fate (Back began) s = s
counted_fate (Closes t) s = counted_trip t s
counted_fate Late s = record s { late = more s.late }
counted_fate Stray s = record s { stray = more s.stray }

-- something happened
abbrev pub counted : Step → Sums → Sums
counted (Ended t) s = counted_trip t s
counted (Taken told what) s = counted_fate what s
