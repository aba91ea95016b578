-- Values of objects (IEC 61158-6-12, SDO services, expedited), in the numbers in which a caller keeps them.
use Rattle.std.specs.Prelude.{ℕ, ◌==◌, ◌&&◌, nat_lt, if◌then◌else◌, Option, None, Some}
use Rattle.ec_app.specs.declared.value.Value.{Value}
use Rattle.ec_app.specs.declared.value.Value.TheVariants.{One, Two, Four}

-- a number as a value of so many bytes; nothing where it does not fit them
unfoldable pub value_in : ℕ → ℕ → Option Value
value_in size number =
    if size == 1 && nat_lt number 256 then Some (One number)
    else if size == 2 && nat_lt number 65536 then Some (Two number)
    else if size == 4 then Some (Four number)
    else None

abbrev pub value_size : Value → ℕ
value_size (One number) = 1
value_size (Two number) = 2
value_size (Four number) = 4

abbrev pub value_number : Value → ℕ
value_number (One number) = number
value_number (Two number) = number
value_number (Four number) = number
