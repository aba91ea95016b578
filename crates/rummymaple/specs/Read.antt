-- The datagrams of a frame and where their data lie, as plain data.
use Rattle.std.specs.Prelude.{◌≡◌, ◌<◌, ◌≤◌, ◌⊎◌, ℕ, ◌+◌, Option, None, Some, List, [], ◌∷◌, ◌++◌, length}
use Rattle.std.specs.Prelude.{drop}
use Rattle.ec_wire.specs.Datagram.{DatagramRecord, code_of, datagram_length}
use Rattle.ec_wire.specs.Fault.{IsSpelt, IsFirstFault}
use Rattle.ec_wire.specs.Spelling.{bit_of}
use Rattle.ec_wire.specs.declared.fault.Form.{Form}
use Rattle.ec_wire.specs.declared.fault.WireFault.{WireFault}
use Rattle.rummymaple.specs.Numbers.{number_of, fault_code}
use Rattle.rummymaple.specs.declared.numbers.Code.TheVariants as codes
use Rattle.rummymaple.specs.declared.read.DatagramPlace.{DatagramPlace}
use Rattle.rummymaple.specs.declared.read.ReadAnswer.{ReadAnswer}
use Rattle.rummymaple.specs.declared.read.ReadEnd.{ReadEnd}
use Rattle.rummymaple.specs.declared.read.ReadEnd.TheVariants.{Read, NoRoom, NoFrame, BadForm}

-- a datagram that begins at a place of its frame: its data lie behind the ten bytes of its head
abbrev pub place_of : ℕ → DatagramRecord → DatagramPlace
place_of at d = record {
  «data» = at + 10;
  length = length d.payload;
  address = d.address;
  counter = d.counter;
  irq = d.irq;
  command = code_of d.command;
  index = d.index;
  circulating = bit_of d.circulating;
}

-- datagrams that lie end to end
abbrev pub places_from : ℕ → List DatagramRecord → List DatagramPlace
places_from at [] = []
places_from at (d ∷ ds) = place_of at d ∷ places_from (at + datagram_length d) ds

-- how the reading of a frame ends, and the room behind it
abbrev pub IsReadFrame : List DatagramRecord → List DatagramPlace → ReadEnd → List DatagramPlace → Type 0
IsReadFrame frame before (Read count) later =
    (count ≡ length frame) × (length frame ≤ length before)
    × (later ≡ places_from 2 frame ++ drop (length frame) before)
IsReadFrame frame before (NoRoom count) later =
    (count ≡ length frame) × (length before < length frame) × (later ≡ before)
IsReadFrame frame before (NoFrame fault) later = ⊥
IsReadFrame frame before BadForm later = ⊥

-- how the reading of bytes ends
abbrev pub IsRead : Option Form → List ℕ → List DatagramPlace → ReadEnd → List DatagramPlace → Type 0
IsRead None bytes before end later = (end ≡ BadForm) × (later ≡ before)
IsRead (Some form) bytes before end later =
    ((frame : List DatagramRecord) × IsSpelt form bytes frame × IsReadFrame frame before end later)
    ⊎ ((f : WireFault) × IsFirstFault form bytes f × (end ≡ NoFrame f) × (later ≡ before))

-- it in numbers
abbrev pub read_answer : ReadEnd → ReadAnswer
read_answer (Read count) = record { count = count; at = 0; code = number_of codes.Good }
read_answer (NoRoom count) = record { count = count; at = 0; code = number_of codes.NoRoom }
read_answer (NoFrame fault) = record { count = 0; at = fault.at; code = number_of (fault_code fault.kind) }
read_answer BadForm = record { count = 0; at = 0; code = number_of codes.BadForm }
