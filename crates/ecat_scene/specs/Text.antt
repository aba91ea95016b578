-- What a line is made of: ASCII text, without control characters, and the words in it.
use Rattle.std.specs.Prelude.{ℕ, ◌&&◌, ◌==◌, Bool, nat_le, nat_lt, if◌then◌else◌, List, Result, Ok, Err}
use Rattle.std.specs.Prelude.{filter, length}
use Rattle.std.specs.List.{list_all, slice_split}
use Rattle.ecat_scene.specs.declared.fault.LineFault.{LineFault}
use Rattle.ecat_scene.specs.declared.fault.LineFault.TheVariants.{NotText}

abbrev pub is_text : ℕ → Bool
is_text byte = nat_le 0x20 byte && nat_le byte 0x7e

-- what the test of a line answers
abbrev pub tested : List ℕ → Result (Unit {0}) LineFault
tested line = if list_all is_text line then Ok tt else Err NotText

-- is it a space, which parts words
abbrev pub is_space : ℕ → Bool
is_space byte = byte == 0x20

-- is there a byte
abbrev pub has_bytes : List ℕ → Bool
has_bytes word = nat_lt 0 (length word)

-- the words of a line: what spaces part, where anything is between them
abbrev pub words_in : List ℕ → List (List ℕ)
words_in line = filter has_bytes (slice_split is_space line)
