-- What a signal is: bits of an item's bytes as one value. Bit 0 is the lowest one of byte 0, and the bits of
-- a number go from its lowest one on (IEC 61158-6-12, process data; IEC 61158-4-12, bit numbering of the
-- FMMU).
use Rattle.std.specs.Prelude.{ℕ, ◌+◌, ◌-◌, ◌*◌, ◌/◌, ◌%◌, ◌^◌, ◌==◌, ◌&&◌, ◌||◌, nat_le, nat_lt, Bool, true}
use Rattle.std.specs.Prelude.{◌<◌, ◌≤◌, ◌⊎◌}
use Rattle.std.specs.Prelude.{false, min, not, if◌then◌else◌, List, [], ◌∷◌, take, drop, length, codes}
use Rattle.std.specs.Prelude.{Option, None, Some, Result, Ok, Err}
use Rattle.std.specs.Int.{w32, from_le_bytes, to_le_bytes}
use Rattle.ec_regs.specs.Bits.{with_bits}
use Rattle.ec_regs.specs.Pairs.{partner}
use Rattle.ecat_signals.specs.declared.field.Field.{Field}
use Rattle.ecat_signals.specs.declared.field.FieldFault.{FieldFault}
use Rattle.ecat_signals.specs.declared.field.FieldFault.TheVariants.{NoField, OutOfRange}
use Rattle.ecat_signals.specs.declared.kind.SignalKind.{SignalKind}
use Rattle.ecat_signals.specs.declared.kind.SignalKind.TheVariants as kind

-- ---- kinds

-- how a kind is written
abbrev pub kind_word : SignalKind → List ℕ
kind_word kind.Bool = codes "bool"
kind_word kind.U8 = codes "u8"
kind_word kind.I8 = codes "i8"
kind_word kind.U16 = codes "u16"
kind_word kind.I16 = codes "i16"
kind_word kind.U32 = codes "u32"
kind_word kind.I32 = codes "i32"
kind_word kind.F32 = codes "f32"
kind_word kind.Raw = codes "raw"

-- 1 to so many
abbrev pub is_up_to : ℕ → ℕ → Bool
is_up_to most count = nat_le 1 count && nat_le count most

-- may a signal of a kind be so many bits from this one on: a row is whole bytes
abbrev pub takes : SignalKind → ℕ → ℕ → Bool
takes kind.Bool bit count = count == 1
takes kind.U8 bit count = is_up_to 8 count
takes kind.I8 bit count = is_up_to 8 count
takes kind.U16 bit count = is_up_to 16 count
takes kind.I16 bit count = is_up_to 16 count
takes kind.U32 bit count = is_up_to 32 count
takes kind.I32 bit count = is_up_to 32 count
takes kind.F32 bit count = count == 32
takes kind.Raw bit count = nat_le 8 count && bit % 8 == 0 && count % 8 == 0

-- is its top bit a sign
abbrev pub has_sign : SignalKind → Bool
has_sign kind.I8 = true
has_sign kind.I16 = true
has_sign kind.I32 = true
has_sign _ = false

-- is it a row of bytes
abbrev pub is_row : SignalKind → Bool
is_row kind.Raw = true
is_row _ = false

-- ---- where its bits lie: in so many bytes, whose bits a number of 64 bits counts

abbrev pub lies_in : ℕ → Field → Bool
lies_in size f = nat_le (f.bit + f.count) (min (8 * size) (2 ^ 64 - 1))

-- a bit before a field's, or behind them
abbrev pub IsOutside : Field → ℕ → Type 0
IsOutside f i = (i < f.bit) ⊎ (f.bit + f.count ≤ i)

-- ---- what is read

-- the number of so many bits of bytes, from one on
abbrev pub number_at : List ℕ → ℕ → ℕ → ℕ
number_at bytes bit count = from_le_bytes w32 (with_bits (0 ∷ 0 ∷ 0 ∷ 0 ∷ []) bytes (partner 0 bit count))

-- a number of so many bits as one of 32: where it has a sign, all higher bits are as its top bit
abbrev pub extended : Bool → ℕ → ℕ → ℕ
extended sign count number =
    if sign && nat_le (2 ^ (count - 1)) number then (number + (2 ^ 32 - 2 ^ count)) % 2 ^ 32 else number

-- is it a number that lies in so many bytes
abbrev pub is_number : ℕ → Field → Bool
is_number size f = is_up_to 32 f.count && not (is_row f.kind) && lies_in size f

abbrev pub number_in : Field → List ℕ → Option ℕ
number_in f bytes =
    if is_number (length bytes) f
    then Some (extended (has_sign f.kind) f.count (number_at bytes f.bit f.count)) else None

-- the bytes of a row, which begins at a whole byte
abbrev pub is_whole_row : ℕ → Field → Bool
is_whole_row size f = is_row f.kind && takes f.kind f.bit f.count && lies_in size f

abbrev pub row_in : Field → List ℕ → Option (List ℕ)
row_in f bytes =
    if is_whole_row (length bytes) f then Some (take (f.count / 8) (drop (f.bit / 8) bytes)) else None

-- ---- what is put

-- bytes in which a field's bits are those of others, from their lowest one on; all other bits stay
abbrev pub with_field : Field → List ℕ → List ℕ → List ℕ
with_field f bits bytes = with_bits bytes bits (partner f.bit 0 f.count)

-- may a number of 32 bits, where it has a sign in two's complement, be one of so many
abbrev pub fits : Bool → ℕ → ℕ → Bool
fits sign count number =
    if sign then nat_lt number (2 ^ (count - 1)) || nat_le (2 ^ 32 - 2 ^ (count - 1)) number
    else nat_lt number (2 ^ count)

-- bytes with a number in a field's bits
abbrev pub number_put : Field → ℕ → List ℕ → Result (List ℕ) FieldFault
number_put f number bytes =
    if is_number (length bytes) f then (if fits (has_sign f.kind) f.count number
    then Ok (with_field f (to_le_bytes w32 number) bytes) else Err OutOfRange) else Err NoField

-- bytes with a row in a field's bits
abbrev pub row_put : Field → List ℕ → List ℕ → Result (List ℕ) FieldFault
row_put f row bytes =
    if is_whole_row (length bytes) f then (if 8 * length row == f.count then Ok (with_field f row bytes)
    else Err OutOfRange) else Err NoField
