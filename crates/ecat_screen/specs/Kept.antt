-- The last lines of a text that comes in pieces, as a page shows them.
use Rattle.std.specs.Prelude.{ℕ, ◌-◌, ◌==◌, ◌&&◌, ◌++◌, ◌∷◌, [], Bool, List, nat_le, if◌then◌else◌}
use Rattle.std.specs.Prelude.{drop, length, map, take}
use Rattle.ecat_screen.specs.declared.recent.Recent.{Recent}
use Rattle.ecat_screen.specs.declared.recent.TheConstants.{MOST_LINES, WIDTH}

-- a byte ends a line
abbrev pub ends_line : ℕ → Bool
ends_line byte = byte == 10

-- a byte as it is shown: itself where it is printable ASCII, which commands no terminal, and ? else
abbrev pub shown : ℕ → ℕ
shown byte = if nat_le 32 byte && nat_le byte 126 then byte else 63

-- a line with a byte behind it, as far as the page is wide
abbrev pub with_byte : List ℕ → ℕ → List ℕ
with_byte line byte = take WIDTH (line ++ shown byte ∷ [])

-- the last so many lines of these
abbrev pub last_lines : List (List ℕ) → List (List ℕ)
last_lines lines = drop (length lines - MOST_LINES) lines

-- the lines that are kept
abbrev pub lines_of : Recent → List (List ℕ)
lines_of recent = map (λ row. row.items) recent.lines.items

-- what is kept of a text, behind its next byte: the end of a line keeps that line
abbrev pub lines_behind : List (List ℕ) → List ℕ → ℕ → List (List ℕ)
lines_behind lines line byte = if ends_line byte then last_lines (lines ++ line ∷ []) else lines

-- the line that has not ended, behind its next byte
abbrev pub line_behind : List ℕ → ℕ → List ℕ
line_behind line byte = if ends_line byte then [] else with_byte line byte
