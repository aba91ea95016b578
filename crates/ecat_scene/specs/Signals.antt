-- The signals of a scene: a name for bits of an item. What its words are is judged where its line stands, and
-- whether its bits lie in its item when all lines do.
use Rattle.std.specs.Prelude.{ℕ, ◌+◌, ◌^◌, ◌==◌, ◌&&◌, ◌||◌, nat_le, nat_lt, if◌then◌else◌, Bool, false}
use Rattle.std.specs.Prelude.{List, [], ◌∷◌, ◌++◌, length, slice_get, codes, is_ok, Option, Result, Ok, Err}
use Rattle.std.specs.List.{list_all, list_any}
use Rattle.std.specs.Option.{option_map_or}
use Rattle.std.specs.Str.{bytes_eq}
use Rattle.ec_map.specs.Item.{ItemRecord}
use Rattle.ecat_signals.specs.Signals.{lies_in, takes}
use Rattle.ecat_signals.specs.declared.field.Field.{Field}
use Rattle.ecat_signals.specs.declared.kind.SignalKind.{SignalKind}
use Rattle.ecat_signals.specs.declared.kind.SignalKind.TheVariants as kind
use Rattle.ecat_scene.specs.declared.fault.LineFault.{LineFault}
use Rattle.ecat_scene.specs.declared.fault.LineFault.TheVariants.{BadNumber, OutOfRange, TooMany, Twin}
use Rattle.ecat_scene.specs.declared.fault.LineFault.TheVariants.{WrongCount}
use Rattle.ecat_scene.specs.declared.scene.TheConstants.{MAX_ITEMS, MAX_SIGNAL_NAME, MAX_SIGNALS}
use Rattle.ecat_scene.specs.Fields.{fitting}
use Rattle.ecat_scene.specs.Numbers.{number_of}
use Rattle.ecat_scene.specs.Scene.{SceneRecord, SignalRecord}
use Rattle.ecat_scene.specs.Words.{◌>>=◌}

-- ---- its words

-- is it a letter, a digit, `_`, `.` or `-`
abbrev pub is_name_byte : ℕ → Bool
is_name_byte c =
    nat_le 97 c && nat_le c 122 || nat_le 65 c && nat_le c 90 || nat_le 48 c && nat_le c 57 || c == 95
    || c == 46 || c == 45

-- a name is of these, and no number
abbrev pub name_form : List ℕ → Result (Unit {0}) LineFault
name_form word =
    if is_ok (number_of word) then Err BadNumber
    else if list_all is_name_byte word then Ok tt else Err BadNumber

-- and not too long
abbrev pub name_size : List ℕ → Result (Unit {0}) LineFault
name_size word = if nat_le (length word) MAX_SIGNAL_NAME then Ok tt else Err OutOfRange

-- the kind of a word
abbrev pub kind_of : List ℕ → Result SignalKind LineFault
kind_of word =
    if bytes_eq word (codes "bool") then Ok kind.Bool
    else if bytes_eq word (codes "u8") then Ok kind.U8
    else if bytes_eq word (codes "i8") then Ok kind.I8
    else if bytes_eq word (codes "u16") then Ok kind.U16
    else if bytes_eq word (codes "i16") then Ok kind.I16
    else if bytes_eq word (codes "u32") then Ok kind.U32
    else if bytes_eq word (codes "i32") then Ok kind.I32
    else if bytes_eq word (codes "f32") then Ok kind.F32
    else if bytes_eq word (codes "raw") then Ok kind.Raw
    else Err BadNumber

-- bits of an item, of which a kind takes so many
unfoldable pub field_of : ℕ → ℕ → ℕ → SignalKind → Result Field LineFault
field_of item bit count kind = do
  i ← fitting MAX_ITEMS item
  b ← fitting (2 ^ 16) bit
  c ← fitting (2 ^ 16) count
  if takes kind b c then Ok (record { item = i; bit = b; count = c; kind = kind }) else Err OutOfRange

-- the signal of the words of its line
unfoldable pub signal_of : (name item bit count kind : List ℕ) → Result SignalRecord LineFault
signal_of name item bit count kind = do
  named ← name_form name
  i ← number_of item
  b ← number_of bit
  c ← number_of count
  k ← kind_of kind
  short ← name_size name
  f ← field_of i b c k
  Ok (record { name = name; field = f })

-- ---- its line

-- does a signal have this name
abbrev pub has_name : List ℕ → SignalRecord → Bool
has_name name signal = bytes_eq signal.name name

-- one signal more, where there is room for it and none has its name
abbrev pub with_signal : SignalRecord → SceneRecord → Result SceneRecord LineFault
with_signal signal scene =
    if nat_lt (length scene.signals) MAX_SIGNALS then (if list_any (has_name signal.name) scene.signals
    then Err Twin else Ok (record scene { signals = scene.signals ++ signal ∷ [] })) else Err TooMany

unfoldable pub signal_line : List (List ℕ) → SceneRecord → Result SceneRecord LineFault
signal_line (name ∷ item ∷ bit ∷ count ∷ kind ∷ []) scene =
    signal_of name item bit count kind >>= λ signal. with_signal signal scene
signal_line words scene = Err WrongCount

-- ---- when all lines stand

-- do its bits lie in its item
abbrev pub has_item : List ItemRecord → SignalRecord → Bool
has_item items signal = option_map_or (λ (item : ItemRecord). lies_in (length item.payload) signal.field)
    (slice_get items signal.field.item) false

-- a scene whose lines all stand is one where each of its signals has its item
abbrev pub judged : Result SceneRecord LineFault → Result SceneRecord LineFault
judged (Ok scene) = if list_all (has_item scene.items) scene.signals then Ok scene else Err OutOfRange
judged (Err fault) = Err fault
