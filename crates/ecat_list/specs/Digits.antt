-- Numbers by a fixed number of hexadecimal digits, in lower case.
use Rattle.std.specs.Prelude.{ℕ, ◌/◌, ◌%◌, List, [], ◌∷◌, ◌++◌, codes, slice_index}

-- the digit of a number below 16
abbrev pub digit : ℕ → ℕ
digit n = slice_index (codes "0123456789abcdef") n

-- the last four digits, the highest first
abbrev pub four_digits : ℕ → List ℕ
four_digits n = digit (n / 4096 % 16) ∷ digit (n / 256 % 16) ∷ digit (n / 16 % 16) ∷ digit (n % 16) ∷ []

-- and the last eight
abbrev pub eight_digits : ℕ → List ℕ
eight_digits n = four_digits (n / 65536) ++ four_digits n

-- the two digits of each byte, the higher one first
abbrev pub hex : List ℕ → List ℕ
hex [] = []
hex (b ∷ bs) = digit (b / 16) ∷ digit (b % 16) ∷ hex bs
