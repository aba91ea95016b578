-- The outputs of cycles as a text gives them: a line for each cycle, in which two hexadecimal digits of
-- either case stand for each byte.
use Rattle.std.specs.Prelude.{ℕ, ◌+◌, ◌-◌, ◌==◌, nat_lt, nat_eq, Bool, if◌then◌else◌, Option, None, Some}
use Rattle.std.specs.Prelude.{List, [], ◌∷◌, length, take, drop, Result, Ok, Err}
use Rattle.std.specs.Cmp.Lexicographic.{pointwise}
use Rattle.std.specs.List.{slice_split}
use Rattle.hex.specs.Hex.{decode_of}
use Rattle.hex.specs.declared.error.FromHexError.{FromHexError}
use Rattle.ec_app.specs.Table.{first_fitting}
use Rattle.ec_run.specs.declared.images.ImageFault.TheVariants.{NotHex, Length}
use Rattle.ec_run.specs.declared.images.ImagesFault.{ImagesFault}
use Rattle.ec_run.specs.declared.images.ImagesFault.TheVariants.{TooLong, Empty, Line}
use Rattle.ec_run.specs.declared.images.TheConstants.{MAX_IMAGES_TEXT}

-- ---- lines

-- LF parts two lines
abbrev pub is_line_feed : ℕ → Bool
is_line_feed byte = byte == 10

-- the lines of a text, as LF parts them: one more than it has of them
abbrev pub lines_of : List ℕ → List (List ℕ)
lines_of text = slice_split is_line_feed text

-- those of a text, if there is one
abbrev pub lines_in : Option (List ℕ) → List (List ℕ)
lines_in None = []
lines_in (Some text) = lines_of text

-- a text without the LF at its end, if it ends with one
abbrev pub without_end : List ℕ → List ℕ
without_end text =
    if pointwise nat_eq (drop (length text - 1) text) (10 ∷ []) then take (length text - 1) text else text

-- ---- images

-- the image of the line with this number, of which these bytes were decoded
abbrev pub image_by : ℕ → ℕ → Result (List ℕ) FromHexError → Result (List ℕ) ImagesFault
image_by size number (Err fault) = Err (Line number NotHex)
image_by size number (Ok bytes) =
    if length bytes == size then Ok bytes else Err (Line number (Length (length bytes)))

-- the image of so many bytes that a line spells
abbrev pub image_in : ℕ → ℕ → List ℕ → Result (List ℕ) ImagesFault
image_in size number line = image_by size number (decode_of line)

-- an image stands before others, unless one of them is at fault; the first fault is told
abbrev pub put_first : Result (List ℕ) ImagesFault → Result (List (List ℕ)) ImagesFault
    → Result (List (List ℕ)) ImagesFault
put_first (Err fault) others = Err fault
put_first (Ok image) (Err fault) = Err fault
put_first (Ok image) (Ok images) = Ok (image ∷ images)

-- the images of lines, the first of which has this number
unfoldable pub images_in : ℕ → ℕ → List (List ℕ) → Result (List (List ℕ)) ImagesFault
images_in size number [] = Ok []
images_in size number (line ∷ rest) =
    put_first (image_in size number line) (images_in size (number + 1) rest)

-- the images of a text, each of so many bytes
abbrev pub images_of : ℕ → List ℕ → Result (List (List ℕ)) ImagesFault
images_of size text =
    first_fitting
    ((nat_lt MAX_IMAGES_TEXT (length text), Err TooLong)
    ∷ (length (without_end text) == 0, Err Empty)
    ∷ []) (images_in size 1 (lines_of (without_end text)))
