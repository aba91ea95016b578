-- A table is a list of rows, each a test and what it says; the first row whose test holds decides.
use Rattle.std.specs.Prelude.{Bool, if◌then◌else◌, List, [], ◌∷◌}

-- what the first fitting row says, or this where none fits
abbrev pub first_fitting : {R : Type 0} → List (Bool × R) → R → R
first_fitting [] other = other
first_fitting (row ∷ rows) other = if row.0 then row.1 else first_fitting rows other
