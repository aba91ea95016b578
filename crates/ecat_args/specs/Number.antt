-- A number on the command line is decimal digits, or `0x` and hexadecimal digits of either case,
-- any number of them.
use Rattle.std.specs.Prelude.{ℕ, ◌&&◌, ◌==◌, Bool, List, Option, Some, None, length, drop, codes}
use Rattle.std.specs.Prelude.{if◌then◌else◌, nat_lt, nat_le, nat_eq, option_and_then, option_map}
use Rattle.std.specs.List.{list_all, starts_with}
use Rattle.std.specs.Option.{option_map_or}
use Rattle.std.specs.Char.{digit_value}
use Rattle.std.specs.Str.Parse.{digits_value}
use Rattle.ecat_args.specs.declared.number.Value.{Value}
use Rattle.ecat_args.specs.declared.number.Value.TheVariants.{One, Two, Four}

-- one digit of the radix or more, and nothing else
abbrev pub is_numeral : ℕ → List ℕ → Bool
is_numeral radix digits =
    nat_lt 0 (length digits) && list_all (λ c. nat_lt (digit_value c) radix) digits

-- the number that the digits write, if they are digits of the radix
abbrev pub numeral : ℕ → List ℕ → Option ℕ
numeral radix digits =
    if is_numeral radix digits then Some (digits_value radix digits) else None

-- what follows `0x`, if the text begins so
abbrev pub after_prefix : List ℕ → Option (List ℕ)
after_prefix text = if starts_with nat_eq text (codes "0x") then Some (drop 2 text) else None

-- the number that a text writes, if it writes one
abbrev pub number_of : List ℕ → Option ℕ
number_of text = option_map_or (numeral 16) (after_prefix text) (numeral 10 text)

-- the number, if it is from `least` to `most`
abbrev pub within : ℕ → ℕ → Option ℕ → Option ℕ
within least most =
    option_and_then (λ n. if nat_le least n && nat_le n most then Some n else None)

abbrev pub number_within : ℕ → ℕ → List ℕ → Option ℕ
number_within least most text = within least most (number_of text)

-- two, four or eight hexadecimal digits, as a value of that size
abbrev pub value_by_size : List ℕ → Option Value
value_by_size digits =
    if length digits == 2 then option_map One (numeral 16 digits)
    else if length digits == 4 then option_map Two (numeral 16 digits)
    else if length digits == 8 then option_map Four (numeral 16 digits)
    else None

-- the value that a text writes: `0x` and its digits
abbrev pub value_of : List ℕ → Option Value
value_of text = option_and_then value_by_size (after_prefix text)
