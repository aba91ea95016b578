-- A frame bears a number in a datagram behind its own (IEC 61158-4-12, the datagram structure and NOP): a NOP
-- of eight bytes, which no slave serves, so that it comes back with the data with which it went out.
use Rattle.std.specs.Prelude.{◌≡◌, ◌==◌, ℕ, ◌+◌, ◌-◌, ◌*◌, Bool, false, ◌&&◌, if◌then◌else◌}
use Rattle.std.specs.Prelude.{List, [], ◌∷◌, ◌++◌, length, take, Option, None, Some, IfSome}
use Rattle.std.specs.Int.{w64, to_le_bytes, from_le_bytes}
use Rattle.ec_wire.specs.Datagram.{DatagramRecord, nth, code_of}
use Rattle.ec_wire.specs.Fault.{IsSpelt}
use Rattle.ec_wire.specs.declared.command.Command.TheVariants.{Nop}
use Rattle.ec_wire.specs.declared.fault.Form.TheVariants.{Udp}
use Rattle.ec_merge.specs.Frames.{IsOwn}

-- the two numbers of a trip, one for each of its copies
abbrev pub number_a : ℕ → ℕ
number_a trip = 2 * trip

abbrev pub number_b : ℕ → ℕ
number_b trip = 2 * trip + 1

-- ---- numbered

-- the datagram that carries a number, which turned round or did not
unfoldable pub carrying : Bool → ℕ → DatagramRecord
carrying circulating n = record {
  command = Nop;
  index = 0;
  address = 0;
  circulating = circulating;
  irq = 0;
  payload = to_le_bytes w64 n;
  counter = 0;
}

-- datagrams with a number behind them
abbrev pub with_number : Bool → ℕ → List DatagramRecord → List DatagramRecord
with_number circulating n ds = ds ++ carrying circulating n ∷ []

-- a frame as it goes out under a number
abbrev pub numbered : ℕ → List DatagramRecord → List DatagramRecord
numbered n ds = with_number false n ds

-- a frame whose last datagram, its number, is taken off
abbrev pub opened : List DatagramRecord → List DatagramRecord
opened ds = take (length ds - 1) ds

-- ---- the number that a frame bears

-- the last datagram of a frame
abbrev pub last_of : List DatagramRecord → DatagramRecord
last_of ds = nth ds (length ds - 1)

-- does a datagram carry a number: is it a NOP of eight bytes
abbrev pub carries : DatagramRecord → Bool
carries d = code_of d.command == code_of Nop && length d.payload == 8

-- the number that a datagram carries, if it carries one
abbrev pub carried_by : DatagramRecord → Option ℕ
carried_by d = if carries d then Some (from_le_bytes w64 d.payload) else None

-- a frame bears the number that its last datagram carries
abbrev pub number_of : List DatagramRecord → Option ℕ
number_of ds = carried_by (last_of ds)

abbrev pub Bears : ℕ → List DatagramRecord → Type 0
Bears n ds = number_of ds ≡ Some n

-- ---- what came

-- a frame came of the one that went out: it is no stranger, and the data of its last datagram is what was
-- sent
pub record CameBack (sent copy : List DatagramRecord) : Type 0 where
  pub own : IsOwn sent copy
  pub number : (last_of copy).payload ≡ (last_of sent).payload

-- it came of a frame that went out under a number
abbrev pub CameUnder : ℕ → List DatagramRecord → List DatagramRecord → Type 0
CameUnder n sent copy = CameBack (numbered n sent) copy

-- the frame that a packet spells came of the one that went out
pub record IsCopy (sent : List DatagramRecord) (packet : List ℕ) (copy : List DatagramRecord) : Type 0 where
  pub spelt : IsSpelt Udp packet copy
  pub came : CameBack sent copy

-- the copy that a packet is, if it is one
abbrev pub IsCopyOf : List DatagramRecord → Option (List ℕ) → Option (List DatagramRecord) → Type 0
IsCopyOf sent None copy = copy ≡ None
IsCopyOf sent (Some packet) copy =
    IfSome copy (IsCopy sent packet)
    × ((rs : List DatagramRecord) → IsCopy sent packet rs → copy ≡ Some rs)
