-- Numbers as they are printed: decimal digits, and lower-case hexadecimal ones with zeros before them.
use Rattle.std.specs.Prelude.{ℕ, ◌-◌, ◌^◌, [], List, false}
use Rattle.std.specs.Fmt.{digits, format_spec, padded_integral}

-- the hexadecimal digits of n, lower case, with zeros before them where they are fewer than `width`
abbrev pub hexadecimal : ℕ → ℕ → List ℕ
hexadecimal width n = padded_integral (format_spec 32 0 4 width (2 ^ 64 - 1)) false [] (digits 16 false n)
