-- The line of a datagram: the packet's number, seconds and source, and the datagram's number, command,
-- address, length, working counter and data, parted by spaces, or by commas in CSV.
use Rattle.std.specs.Prelude.{ℕ, ◌+◌, Bool, true, false, List, [], ◌∷◌, ◌++◌, codes, drop, length}
use Rattle.std.specs.Prelude.{Option, None, Some}
use Rattle.std.specs.Fmt.{decimal}
use Rattle.ec_wire.specs.Command.{name_of}
use Rattle.ec_wire.specs.Datagram.{DatagramRecord}
use Rattle.ecat_list.specs.Address.{address_words}
use Rattle.ecat_list.specs.Digits.{hex}
use Rattle.ecat_list.specs.Seconds.{seconds_words}
use Rattle.ecat_list.specs.declared.line.Head.{Head}
use Rattle.ecat_list.specs.declared.line.Since.{Since}
use Rattle.ecat_list.specs.declared.line.Style.{Style}
use Rattle.ecat_list.specs.declared.line.Style.TheVariants.{Words, Csv}

-- what stands between two columns
abbrev pub separator : Style → List ℕ
separator Words = codes " "
separator Csv = codes ","

-- a column that says nothing
abbrev pub nothing_words : Style → List ℕ
nothing_words Words = codes "-"
nothing_words Csv = []

abbrev pub sign_words : Bool → List ℕ
sign_words true = codes "-"
sign_words false = []

-- the time since the first packet, which may have been later
abbrev pub since_words : Style → Option Since → List ℕ
since_words style None = nothing_words style
since_words style (Some since) = sign_words since.before ++ seconds_words since.nanoseconds since.fine

-- the digits of bytes, each behind a colon
abbrev pub behind_colons : List ℕ → List ℕ
behind_colons [] = []
behind_colons (b ∷ bs) = codes ":" ++ hex (b ∷ []) ++ behind_colons bs

-- a source address, its bytes parted by colons
abbrev pub source_words : Style → Option (List ℕ) → List ℕ
source_words style None = nothing_words style
source_words style (Some address) = drop 1 (behind_colons address)

-- what all lines of a packet begin with
abbrev pub head_words : Style → Head → List ℕ
head_words style head =
    decimal head.number ++ separator style
    ++ since_words style head.since ++ separator style
    ++ source_words style head.source ++ separator style

abbrev pub counter_words : Style → ℕ → List ℕ
counter_words Words counter = codes "wkc " ++ decimal counter
counter_words Csv counter = decimal counter

-- the digits of all data
abbrev pub data_words : Style → List ℕ → List ℕ
data_words style [] = nothing_words style
data_words style (b ∷ bs) = hex (b ∷ bs)

-- the columns of a datagram's length and its counter
abbrev pub counted_words : Style → DatagramRecord → List ℕ
counted_words style datagram =
    decimal (length datagram.payload) ++ separator style
    ++ counter_words style datagram.counter ++ separator style

-- the columns of datagram k before its data
abbrev pub columns_words : Style → ℕ → DatagramRecord → List ℕ
columns_words style k datagram =
    decimal k ++ separator style
    ++ name_of datagram.command ++ separator style
    ++ address_words datagram.command datagram.address ++ separator style
    ++ counted_words style datagram

-- the line of datagram k of a packet whose lines all begin so
abbrev pub line_words : Style → List ℕ → ℕ → DatagramRecord → List ℕ
line_words style begin k datagram =
    begin ++ columns_words style k datagram ++ data_words style datagram.payload ++ codes "\n"

-- the lines of datagrams, of which the first has the number k
abbrev pub lines_from : Style → List ℕ → ℕ → List DatagramRecord → List ℕ
lines_from style begin k [] = []
lines_from style begin k (d ∷ ds) = line_words style begin k d ++ lines_from style begin (k + 1) ds

-- the lines of all datagrams of a packet
abbrev pub lines_words : Style → Head → List DatagramRecord → List ℕ
lines_words style head datagrams = lines_from style (head_words style head) 0 datagrams
