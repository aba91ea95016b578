-- Before a line stands the time at which it is written, in UTC, as ISO 8601 has it (5.4.2, extended format).
use Rattle.std.specs.Prelude.{◌≡◌, ◌==◌, ◌+◌, ◌++◌, ℕ, Bool, List, Option, None, Some, [], codes, false, true}
use Rattle.std.specs.Prelude.{length, max, min, pos, position}
use Rattle.jiff_core.specs.declared.civil.datetime.DateTime.{DateTime}
use Rattle.jiff_core.specs.DateTime.{civil_nanos}
use Rattle.jiff_fmt.specs.Text.{date_text, time_text}

-- a time, nanoseconds since 1970, with so many digits of a second's fraction: the day of the Gregorian
-- calendar and the time of the day that lie so far behind its beginning, as 2026-12-01T04:16:03.123Z
pub record IsDate (nanoseconds digits : ℕ) (text : List ℕ) : Type 0 where
  pub moment : DateTime
  pub lies_there : civil_nanos moment ≡ pos nanoseconds
  pub is_written :
      text ≡ date_text moment.date ++ codes "T" ++ time_text (Some digits) moment.time ++ codes "Z"

-- the stamp of a time: with three digits, and a space
abbrev pub IsStamp : ℕ → List ℕ → Type 0
IsStamp nanoseconds text = (date : List ℕ) × IsDate nanoseconds 3 date × (text ≡ date ++ codes " ")

-- what stands before bytes: nothing within a line, nor where no time is to stand there, else the stamp of
-- what time it is, or was last, whichever is later
abbrev pub IsBefore : Bool → ℕ → Option ℕ → List ℕ → Type 0
IsBefore within last now text = (within ≡ true → text ≡ []) × (now ≡ None → text ≡ [])
    × ((time : ℕ) → within ≡ false → now ≡ Some time → IsStamp (max last time) text)

-- a byte ends a line
abbrev pub ends_line : ℕ → Bool
ends_line byte = byte == 10

-- how many bytes the first line of some has, with its end
abbrev pub line_length : List ℕ → Option ℕ → ℕ
line_length bytes None = length bytes
line_length bytes (Some place) = place + 1

-- how many of some bytes go out at once: those of their first line, as far as there is room
abbrev pub taken : List ℕ → ℕ → ℕ
taken bytes room = min (line_length bytes (position ends_line bytes)) room
