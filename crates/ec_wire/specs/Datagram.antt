-- A frame's value is a list of datagram records, one for each datagram, in their order
-- (IEC 61158-4-12, the datagram structure).
use Rattle.std.specs.Prelude.{ℕ, ◌+◌, ◌*◌, ◌/◌, ◌%◌, ◌<◌, ◌^◌, Bool, false, List, [], ◌∷◌, length}
use Rattle.std.specs.Prelude.{slice_index_or}
use Rattle.ec_wire.specs.declared.command.Command.{Command}
use Rattle.ec_wire.specs.declared.command.Command.TheVariants.{Nop, Aprd, Apwr, Aprw, Fprd, Fpwr, Fprw, Brd}
use Rattle.ec_wire.specs.declared.command.Command.TheVariants.{Bwr, Brw, Lrd, Lwr, Lrw, Armw, Frmw}
use Rattle.ec_wire.specs.declared.datagram.Datagram.{Datagram}

-- one datagram without where it lies in the frame
pub record DatagramRecord : Type 0 where
  pub command : Command
  pub index : ℕ
  pub address : ℕ
  pub circulating : Bool
  pub irq : ℕ
  pub payload : List ℕ
  pub counter : ℕ

-- the record of a `Datagram`
abbrev pub record_of : Datagram → DatagramRecord
record_of d =
    record {
      command = d.command;
      index = d.index;
      address = d.address;
      circulating = d.circulating;
      irq = d.irq;
      payload = d.payload.items;
      counter = d.counter;
    }

-- the commands in the order of their codes
abbrev pub commands : List Command
commands =
    Nop ∷ Aprd ∷ Apwr ∷ Aprw ∷ Fprd ∷ Fpwr ∷ Fprw ∷ Brd ∷ Bwr ∷ Brw ∷ Lrd ∷ Lwr ∷ Lrw ∷ Armw ∷ Frmw ∷ []

-- the command of a code
unfoldable pub command_of : ℕ → Command
command_of code = slice_index_or commands code Nop

-- the code of a command
abbrev pub code_of : Command → ℕ
code_of Nop = 0
code_of Aprd = 1
code_of Apwr = 2
code_of Aprw = 3
code_of Fprd = 4
code_of Fpwr = 5
code_of Fprw = 6
code_of Brd = 7
code_of Bwr = 8
code_of Brw = 9
code_of Lrd = 10
code_of Lwr = 11
code_of Lrw = 12
code_of Armw = 13
code_of Frmw = 14

-- ---- the two halves of a physical command's address (IEC 61158-4-12, physical addressing)

-- the auto-increment or station address: the low half
abbrev pub adp_of : ℕ → ℕ
adp_of address = address % 65536

-- the address in the slave's memory: the high half
abbrev pub ado_of : ℕ → ℕ
ado_of address = address / 65536

-- the address of both halves
abbrev pub address_of : ℕ → ℕ → ℕ
address_of adp ado = adp + 65536 * ado

-- those of a datagram
abbrev pub adp : DatagramRecord → ℕ
adp r = adp_of r.address

abbrev pub ado : DatagramRecord → ℕ
ado r = ado_of r.address

-- the same datagram with another ADP
abbrev pub with_adp : ℕ → DatagramRecord → DatagramRecord
with_adp n r = record r { address = n + 65536 * ado r }

-- ---- its size

-- the bytes that a datagram takes: ten of its head, the data, and two of the working counter
abbrev pub datagram_length : DatagramRecord → ℕ
datagram_length r = 12 + length r.payload

-- a datagram that asks nothing and carries nothing
abbrev pub blank : DatagramRecord
blank = record {
  command = Nop;
  index = 0;
  address = 0;
  circulating = false;
  irq = 0;
  payload = [];
  counter = 0;
}

-- the datagram at an index, which is below their number
abbrev pub nth : List DatagramRecord → ℕ → DatagramRecord
nth rs k = slice_index_or rs k blank

-- a record whose numbers fit their fields; data bytes are bytes by the type of what holds them
pub record Fits (r : DatagramRecord) : Type 0 where
  pub index : r.index < 2 ^ 8
  pub address : r.address < 2 ^ 32
  pub irq : r.irq < 2 ^ 16
  pub payload : length r.payload < 2 ^ 11
  pub counter : r.counter < 2 ^ 16
