-- A value is one, two or four bytes, the lowest byte of a number first, and an object's rights say what a
-- master may do with it (IEC 61158-6-12, object dictionary).
use Rattle.std.specs.Prelude.{ℕ, ◌<◌, ◌^◌, Bool, true, false}
use Rattle.ec_app.specs.declared.value.Rights.{Rights}
use Rattle.ec_app.specs.declared.value.Rights.TheVariants.{ReadOnly, WriteOnly, Both}
use Rattle.ec_app.specs.declared.value.Value.{Value}
use Rattle.ec_app.specs.declared.value.Value.TheVariants.{One, Two, Four}

-- how many bytes a value has
abbrev pub size_of : Value → ℕ
size_of (One _) = 1
size_of (Two _) = 2
size_of (Four _) = 4

-- the value's number fits its bytes
abbrev pub FitsValue : Value → Type 0
FitsValue (One x) = x < 2 ^ 8
FitsValue (Two x) = x < 2 ^ 16
FitsValue (Four x) = x < 2 ^ 32

-- may a master upload the value, and may it download another
abbrev pub may_read : Rights → Bool
may_read ReadOnly = true
may_read WriteOnly = false
may_read Both = true

abbrev pub may_write : Rights → Bool
may_write ReadOnly = false
may_write WriteOnly = true
may_write Both = true
