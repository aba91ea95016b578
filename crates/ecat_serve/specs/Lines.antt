-- The lines of an input are what LF separates (ISO/IEC 646, line feed); bytes behind the last one are a
-- line too, once the input has ended.
use Rattle.std.specs.Prelude.{◌≡◌, ⊤, ℕ, ◌+◌, ◌≤◌, nat_lt, Bool, true, false, ◌&&◌, ◌||◌, ◌==◌, if◌then◌else◌}
use Rattle.std.specs.Prelude.{Option, None, Some, is_none, is_some, List, [], length, take, drop, position}
use Rattle.ecat_serve.specs.declared.lines.InputLine.{InputLine}
use Rattle.ecat_serve.specs.declared.lines.InputLine.TheVariants.{Whole, Long}
use Rattle.ecat_serve.specs.declared.lines.TheConstants.{LINE_ROOM}

-- the bytes that came and were not taken yet; whether the front of the first line was passed over, since it
-- is too long; and whether the input has ended
pub record LinesState : Type 0 where
  pub held : List ℕ
  pub long : Bool
  pub ended : Bool

-- where the first line ends
abbrev pub first_end : List ℕ → Option ℕ
first_end held = position (λ (byte : ℕ). byte == 0x0a) held

-- is what is held behind the last end a line by now
abbrev pub is_last : LinesState → Bool
is_last s = s.ended && (s.long || nat_lt 0 (length s.held))

-- is there a line to be taken
abbrev pub is_held : LinesState → Bool
is_held s = is_some (first_end s.held) || is_last s

-- what is held once what is too long for a line, and has no end yet, is passed over
abbrev pub settled : LinesState → LinesState
settled s =
    if is_none (first_end s.held) && nat_lt LINE_ROOM (length s.held)
    then record s { held = []; long = true } else s

-- a line as it is told: none where it is too long
abbrev pub told : Bool → List ℕ → Option (List ℕ)
told long line = if long || nat_lt LINE_ROOM (length line) then None else Some line

-- what is taken: a line as it is told, if there is one, and what is held then
pub record Taken : Type 0 where
  pub line : Option (Option (List ℕ))
  pub later : LinesState

-- where no line has its end: the last line, or nothing
abbrev pub taken_open : LinesState → Taken
taken_open s =
    if is_last s
    then record { line = Some (told s.long s.held); later = record s { held = []; long = false } }
    else record { line = None; later = s }

-- where the first line ends there
abbrev pub taken_at : LinesState → Option ℕ → Taken
taken_at s None = taken_open s
taken_at s (Some end) = record {
  line = Some (told s.long (take end s.held));
  later = record s { held = drop (end + 1) s.held; long = false };
}

abbrev pub taken : LinesState → Taken
taken s = taken_at s (first_end s.held)

-- ---- as it is answered

-- a line in the front of its room
abbrev pub IsLine : InputLine → List ℕ → Option (List ℕ) → Type 0
IsLine Long room line = line ≡ None
IsLine (Whole count) room line = (count ≤ LINE_ROOM) × (line ≡ Some (take count room))

abbrev pub IsTaken : Option InputLine → List ℕ → Option (Option (List ℕ)) → Type 0
IsTaken None room line = line ≡ None
IsTaken (Some found) room None = ⊥
IsTaken (Some found) room (Some line) = IsLine found room line

-- so many bytes as its room has
abbrev pub IsInRoom : InputLine → Type 0
IsInRoom Long = ⊤
IsInRoom (Whole count) = count ≤ LINE_ROOM
