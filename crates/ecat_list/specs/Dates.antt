-- A time as a date: to the nanosecond, or to the microsecond.
use Rattle.std.specs.Prelude.{ℕ, Bool, true, false}

abbrev pub digits_of : Bool → ℕ
digits_of true = 9
digits_of false = 6
