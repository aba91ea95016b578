-- A frame of one datagram, of any command (IEC 61158-4-12, the datagram structure).
use Rattle.std.specs.Prelude.{◌≡◌, ◌⊎◌, ◌<◌, ◌≤◌, ℕ, false, List, [], ◌∷◌, length}
use Rattle.ec_wire.specs.Datagram.{DatagramRecord, command_of}
use Rattle.ec_wire.specs.Spelling.{spelling}
use Rattle.ec_wire.specs.declared.command.Command.{Command}
use Rattle.ec_wire.specs.declared.datagram.TheConstants.{MAX_DATA}
use Rattle.rummymaple.specs.Join.{IsPut}
use Rattle.rummymaple.specs.Numbers.{number_of}
use Rattle.rummymaple.specs.declared.numbers.Code.TheVariants as codes
use Rattle.rummymaple.specs.declared.packet.WrittenAnswer.{WrittenAnswer}
use Rattle.rummymaple.specs.declared.single.SingleEnd.{SingleEnd}
use Rattle.rummymaple.specs.declared.single.SingleEnd.TheVariants.{Made, NoRoom, BadLength, BadCommand}

-- how many commands there are: their codes are below it
abbrev pub commands : ℕ
commands = 15

-- the frame of a datagram with these data, with index 0 and counter 0
abbrev pub single : Command → ℕ → List ℕ → List DatagramRecord
single command address payload = record {
  command = command;
  index = 0;
  address = address;
  circulating = false;
  irq = 0;
  payload = payload;
  counter = 0;
} ∷ []

-- how the putting of the frame of a known command into a room ends
abbrev pub IsPutSingle : Command → ℕ → List ℕ → List ℕ → SingleEnd → List ℕ → Type 0
IsPutSingle command address payload before (Made count) later =
    (1 ≤ length payload) × (length payload ≤ MAX_DATA)
    × IsPut (spelling (single command address payload)) before count later
IsPutSingle command address payload before NoRoom later =
    (1 ≤ length payload) × (length payload ≤ MAX_DATA)
    × (length before < length (spelling (single command address payload))) × (later ≡ before)
IsPutSingle command address payload before BadLength later =
    ((length payload ≡ 0) ⊎ (MAX_DATA < length payload)) × (later ≡ before)
IsPutSingle command address payload before BadCommand later = ⊥

-- how it ends, whatever the code of the command
abbrev pub IsSingle : ℕ → ℕ → List ℕ → List ℕ → SingleEnd → List ℕ → Type 0
IsSingle command address payload before end later =
    ((commands ≤ command) × (end ≡ BadCommand) × (later ≡ before))
    ⊎ ((command < commands) × IsPutSingle (command_of command) address payload before end later)

-- it in numbers
abbrev pub single_answer : SingleEnd → WrittenAnswer
single_answer (Made count) = record { bytes = count; at = 0; code = number_of codes.Good }
single_answer NoRoom = record { bytes = 0; at = 0; code = number_of codes.NoRoom }
single_answer BadLength = record { bytes = 0; at = 0; code = number_of codes.BadLength }
single_answer BadCommand = record { bytes = 0; at = 0; code = number_of codes.BadCommand }
