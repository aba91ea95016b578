-- Copies of earlier trips that come later than their trips.
use Rattle.std.specs.Prelude.{ℕ, Option, None, Some, min}

-- the older one of two trips, where there is one already
abbrev pub older : Option ℕ → ℕ → ℕ
older None trip = trip
older (Some oldest) trip = min oldest trip
