-- What is printed of the packet sockets at which a line is served.
use Rattle.std.specs.Prelude.{ℕ, ◌++◌, List, Option, Some, None, codes}
use Rattle.std.specs.Fmt.{decimal}
use Rattle.ecat_raw.specs.declared.sockets.Descriptors.{Descriptors}

-- the descriptors of a served line
abbrev pub served_words : ℕ → Option ℕ → List ℕ
served_words a None = codes "serving A descriptor " ++ decimal a
served_words a (Some b) =
    codes "serving A descriptor " ++ (decimal a ++ (codes " B descriptor " ++ decimal b))

abbrev pub raw_where_words : Descriptors → List ℕ
raw_where_words at = served_words at.a at.b
