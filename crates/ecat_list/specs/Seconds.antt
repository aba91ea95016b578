-- A time in seconds, as decimal digits.
use Rattle.std.specs.Prelude.{ℕ, ◌/◌, ◌%◌, Bool, true, false, List, [], ◌++◌, codes, suc, zero}
use Rattle.std.specs.Fmt.{decimal}

-- so many of the last decimal digits of a number, with zeros where it has fewer
abbrev pub last_digits : ℕ → ℕ → List ℕ
last_digits zero n = []
last_digits (suc count) n = last_digits count (n / 10) ++ decimal (n % 10)

-- what stands behind the point: six digits, the microseconds, or nine where nanoseconds are told
abbrev pub fraction_words : ℕ → Bool → List ℕ
fraction_words nanoseconds true = last_digits 9 nanoseconds
fraction_words nanoseconds false = last_digits 6 (nanoseconds / 1000)

-- nanoseconds as seconds: the whole ones, a point, and the digits behind it
abbrev pub seconds_words : ℕ → Bool → List ℕ
seconds_words nanoseconds fine =
    decimal (nanoseconds / 1000000000) ++ codes "." ++ fraction_words nanoseconds fine
