-- What is printed of a worked row, and the exit status of all.
use Rattle.std.specs.Prelude.{ℕ, ◌++◌, Bool, List, true, false, codes, if◌then◌else◌}
use Rattle.std.specs.Fmt.{decimal}
use Rattle.std.specs.List.{list_all}
use Rattle.ecat_vectors.specs.declared.rows.RowText.{RowText}

-- whether a row is as it should be
abbrev pub row_word : Bool → List ℕ
row_word true = codes " ok"
row_word false = codes " wrong"

-- a row by its number
abbrev pub row_words : RowText → List ℕ
row_words row = codes "row " ++ decimal row.number ++ row_word row.good

-- 0 where all rows are as they should be
abbrev pub rows_status : List (ℕ × Bool) → ℕ
rows_status rows = if list_all (λ row. row.1) rows then 0 else 1
