-- How a value of a signal is told that is a number without a binary point.
use Rattle.std.specs.Prelude.{ℕ, ◌-◌, ◌^◌, ◌++◌, ◌&&◌, Bool, nat_le, if◌then◌else◌, List, codes}
use Rattle.std.specs.Fmt.{decimal}

-- a number of 32 bits, decimal; where it has a sign, in two's complement
abbrev pub integer_words : Bool → ℕ → List ℕ
integer_words sign number =
    if sign && nat_le (2 ^ 31) number then codes "-" ++ decimal (2 ^ 32 - number) else decimal number
