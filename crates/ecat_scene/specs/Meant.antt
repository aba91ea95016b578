-- What lines that are written mean: what each does to a scene, by its numbers and the row of bytes that ends
-- it.
use Rattle.std.specs.Prelude.{ℕ, ◌≡◌, ◌++◌, ◌<◌, ◌^◌, Bool, true, false, Result, Ok, List, [], ◌∷◌, length}
use Rattle.hex.specs.Hex.{encode_lower, IsBytes}
use Rattle.ec_app.specs.Value.{FitsValue}
use Rattle.ec_regs.specs.declared.registers.TheConstants.{FMMU_COUNT, SYNC_MANAGER_COUNT}
use Rattle.ecat_scene.specs.declared.fault.LineFault.{LineFault}
use Rattle.ecat_scene.specs.declared.scene.TheConstants.{MAX_SLAVES}
use Rattle.ecat_scene.specs.declared.written.SceneLine.{SceneLine}
use Rattle.ecat_scene.specs.declared.written.SceneLine.TheVariants.{Slave, State, Simple, Areas, SyncMan}
use Rattle.ecat_scene.specs.declared.written.SceneLine.TheVariants.{Fmmu as FmmuLine, Load, Object, Startup}
use Rattle.ecat_scene.specs.declared.written.SceneLine.TheVariants.{Item}
use Rattle.ecat_scene.specs.Deeds.{in_scene, then_last, to_areas, to_simple, to_state, with_fmmu, with_item}
use Rattle.ecat_scene.specs.Deeds.{with_load, with_object, with_room, with_startup, with_sync_man}
use Rattle.ecat_scene.specs.Fields.{active_fmmu, enabled_sync_man, fitting, wire_value}
use Rattle.ecat_scene.specs.Lines.{line_words}
use Rattle.ecat_scene.specs.Scene.{new_slave, SceneRecord}
use Rattle.ecat_scene.specs.Spelt.{ends_with_row}
use Rattle.ecat_scene.specs.Words.{control_bits, item_in, loaded, type_bits, ◌>>=◌}

-- a line begins a slave, or says something of the last one, or adds an item; the tests are those of the
-- scene's limits
abbrev pub with_line : SceneLine → List ℕ → SceneRecord → Result SceneRecord LineFault
with_line (Slave station) row scene =
    in_scene scene (with_room MAX_SLAVES scene.slaves (new_slave station))
with_line (State state) row scene = in_scene scene (then_last (Ok state) to_state scene.slaves)
with_line Simple row scene = in_scene scene (then_last (Ok tt) to_simple scene.slaves)
with_line (Areas outputs inputs) row scene =
    in_scene scene (then_last (Ok (outputs, inputs)) to_areas scene.slaves)
with_line (SyncMan n start length kind) row scene =
    in_scene scene (then_last (fitting SYNC_MANAGER_COUNT n
    >>= λ n. Ok (n, enabled_sync_man start length (control_bits kind))) with_sync_man scene.slaves)
with_line (FmmuLine n logical length first last physical bit through) row scene =
    in_scene scene (then_last (fitting FMMU_COUNT n
    >>= λ n. Ok (n, active_fmmu logical length first last physical bit (type_bits through))) with_fmmu
    scene.slaves)
with_line (Load address) row scene = in_scene scene (then_last (loaded address row) with_load scene.slaves)
with_line (Object index sub rights value) row scene =
    in_scene scene (then_last (Ok (index, sub, rights, value)) with_object scene.slaves)
with_line (Startup index sub) row scene =
    in_scene scene (then_last (wire_value row
    >>= λ value. Ok (record { index = index; sub = sub; value = value })) with_startup scene.slaves)
with_line (Item kind address) row scene = item_in kind address row >>= λ item. with_item item scene

-- a line's numbers fit their fields
abbrev pub FitsLine : SceneLine → Type 0
FitsLine (Slave station) = station < 2 ^ 16
FitsLine (State state) = Unit {0}
FitsLine Simple = Unit {0}
FitsLine (Areas outputs inputs) = (outputs < 2 ^ 16) × (inputs < 2 ^ 16)
FitsLine (SyncMan n start length kind) = (n < 2 ^ 64) × (start < 2 ^ 16) × (length < 2 ^ 16)
FitsLine (FmmuLine n logical length first last physical bit through) =
    (n < 2 ^ 64) × (logical < 2 ^ 32) × (length < 2 ^ 16) × (first < 2 ^ 8) × (last < 2 ^ 8)
    × (physical < 2 ^ 16) × (bit < 2 ^ 8)
FitsLine (Load address) = address < 2 ^ 16
FitsLine (Object index sub rights value) = (index < 2 ^ 16) × (sub < 2 ^ 8) × FitsValue value
FitsLine (Startup index sub) = (index < 2 ^ 16) × (sub < 2 ^ 8)
FitsLine (Item kind address) = address < 2 ^ 32

-- a row of bytes stands where one ends the line, and has one at least
abbrev pub FitsRow : Bool → List ℕ → Type 0
FitsRow true row = (0 < length row) × IsBytes row
FitsRow false row = row ≡ []

-- a line as it is written
pub record WrittenLine : Type 0 where
  pub line : SceneLine
  pub row : List ℕ

pub record IsWritten (w : WrittenLine) : Type 0 where
  pub numbers : FitsLine w.line
  pub bytes : FitsRow (ends_with_row w.line) w.row

abbrev pub AreWritten : List WrittenLine → Type 0
AreWritten [] = Unit {0}
AreWritten (w ∷ ws) = IsWritten w × AreWritten ws

-- the text of lines, each ended by LF
abbrev pub line_text : WrittenLine → List ℕ
line_text w = line_words w.line ++ encode_lower w.row

abbrev pub text_of_lines : List WrittenLine → List ℕ
text_of_lines [] = []
text_of_lines (w ∷ ws) = line_text w ++ 10 ∷ text_of_lines ws

-- what they do one after the other, up to the first for which a limit is passed
abbrev pub with_lines : List WrittenLine → SceneRecord → Result SceneRecord LineFault
with_lines [] scene = Ok scene
with_lines (w ∷ ws) scene = with_line w.line w.row scene >>= with_lines ws
