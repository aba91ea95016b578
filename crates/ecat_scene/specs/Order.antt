-- In which order the tests of a line run: words are counted, and a slave is missed, before any of them is
-- read; and what is told of the line that stops the reading.
use Rattle.std.specs.Prelude.{◌≡◌, ℕ, List, length, vec_len, Result, Err}
use Rattle.ecat_scene.specs.declared.fault.LineFault.TheVariants.{NoSlave, WrongCount}
use Rattle.ecat_scene.specs.declared.fault.SceneFault.{SceneFault}
use Rattle.ecat_scene.specs.declared.fault.SceneFault.TheVariants.{Line, NoMemory as NoMemoryForScene}
use Rattle.ecat_scene.specs.declared.fault.Stop.{Stop}
use Rattle.ecat_scene.specs.declared.fault.Stop.TheVariants.{Fault, NoMemory}
use Rattle.ecat_scene.specs.declared.scene.Scene.{Scene}

-- a line of so many words that belongs to a slave says so where none was begun, whatever the words are
abbrev pub MissesSlave : {W : Type 0} → ℕ → List W → Scene → Result (Unit {0}) Stop → Type 0
MissesSlave count words scene result =
    length words ≡ count → vec_len scene.slaves ≡ 0 → result ≡ Err (Fault NoSlave)

-- a line of more or fewer words than its first one wants says so, whatever the words are
abbrev pub CountsWords : {W T : Type 0} → ℕ → List W → Result T Stop → Type 0
CountsWords count words result = (length words ≡ count → ⊥) → result ≡ Err (Fault WrongCount)

-- what is told of a line that stops the reading: its number and its fault, or that memory ran out
abbrev pub fault_of : ℕ → Stop → SceneFault
fault_of line (Fault fault) = Line line fault
fault_of line NoMemory = NoMemoryForScene
