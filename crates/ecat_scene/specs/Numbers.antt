-- Numbers of a line: decimal digits, or `0x` and hexadecimal digits of either case. One past 64 bits is the
-- greatest.
use Rattle.std.specs.Prelude.{ℕ, ◌+◌, ◌*◌, ◌-◌, ◌^◌, ◌==◌, ◌&&◌, min, nat_lt, nat_le, if◌then◌else◌}
use Rattle.std.specs.Prelude.{Bool, Option, None, Some, Result, Ok, Err, List, [], ◌∷◌, drop, length}
use Rattle.std.specs.Prelude.{slice_index}
use Rattle.ecat_scene.specs.declared.fault.LineFault.{LineFault}
use Rattle.ecat_scene.specs.declared.fault.LineFault.TheVariants.{BadNumber}

-- the value of a hexadecimal digit
abbrev pub digit_of : ℕ → Option ℕ
digit_of c =
    if nat_le 48 c && nat_le c 57 then Some (c - 48)
    else if nat_le 97 c && nat_le c 102 then Some (c - 87)
    else if nat_le 65 c && nat_le c 70 then Some (c - 55)
    else None

-- a number with one digit more behind it
abbrev pub longer : ℕ → ℕ → ℕ → ℕ
longer base value digit = min (min (value * base) (2 ^ 64 - 1) + digit) (2 ^ 64 - 1)

abbrev pub with_digit : ℕ → ℕ → Option ℕ → Result ℕ LineFault
with_digit base value None = Err BadNumber
with_digit base value (Some digit) =
    if nat_lt digit base then Ok (longer base value digit) else Err BadNumber

abbrev pub then_digits : (ℕ → Result ℕ LineFault) → Result ℕ LineFault → Result ℕ LineFault
then_digits rest (Ok value) = rest value
then_digits rest (Err fault) = Err fault

-- the number of these digits behind those of another one
abbrev pub after_digits : ℕ → List ℕ → ℕ → Result ℕ LineFault
after_digits base [] value = Ok value
after_digits base (c ∷ cs) value = then_digits (after_digits base cs) (with_digit base value (digit_of c))

-- a row of digits in a base
abbrev pub row_number : ℕ → List ℕ → Result ℕ LineFault
row_number base row = if length row == 0 then Err BadNumber else after_digits base row 0

-- does a word begin with `0x`
abbrev pub is_hexadecimal : List ℕ → Bool
is_hexadecimal word = slice_index word 0 == 48 && slice_index word 1 == 120

-- a word
abbrev pub number_of : List ℕ → Result ℕ LineFault
number_of word = if is_hexadecimal word then row_number 16 (drop 2 word) else row_number 10 word
