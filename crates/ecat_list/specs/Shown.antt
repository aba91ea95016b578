-- What is printed of a packet: its number, a fault and where it is, and a datagram's line as far as its data.
use Rattle.std.specs.Prelude.{ℕ, ◌++◌, List, codes, length}
use Rattle.std.specs.Fmt.{decimal}
use Rattle.ec_wire.specs.Command.{addressing, name_of}
use Rattle.ec_wire.specs.Datagram.{DatagramRecord, ado_of, adp_of}
use Rattle.ec_wire.specs.declared.command.Addressing.{Addressing}
use Rattle.ec_wire.specs.declared.command.Addressing.TheVariants.{Nobody, AutoIncrement}
use Rattle.ec_wire.specs.declared.command.Addressing.TheVariants.{ConfiguredStation, All, Logical}
use Rattle.ec_wire.specs.declared.fault.FaultKind.{FaultKind}
use Rattle.ec_wire.specs.declared.fault.FaultKind.TheVariants.{Short, BadType, Reserved, Empty, TooLong}
use Rattle.ec_wire.specs.declared.fault.FaultKind.TheVariants.{BadCommand, Overrun, MoreAtEnd, LeftOver}
use Rattle.ec_wire.specs.declared.fault.FaultKind.TheVariants.{Trailing}
use Rattle.ec_wire.specs.declared.fault.WireFault.{WireFault}
use Rattle.ecat_list.specs.Digits.{four_digits, eight_digits}
use Rattle.ecat_list.specs.declared.shown.DatagramHead.{DatagramHead}

-- the kind of a fault by its name
abbrev pub kind_words : FaultKind → List ℕ
kind_words Short = codes "Short"
kind_words BadType = codes "BadType"
kind_words Reserved = codes "Reserved"
kind_words Empty = codes "Empty"
kind_words TooLong = codes "TooLong"
kind_words BadCommand = codes "BadCommand"
kind_words Overrun = codes "Overrun"
kind_words MoreAtEnd = codes "MoreAtEnd"
kind_words LeftOver = codes "LeftOver"
kind_words Trailing = codes "Trailing"

-- a fault, and the index of the byte where it is
abbrev pub wire_fault_words : WireFault → List ℕ
wire_fault_words fault = codes "fault " ++ kind_words fault.kind ++ codes " at " ++ decimal fault.at

-- what a datagram's line tells before its data
abbrev pub head_of : DatagramRecord → DatagramHead
head_of datagram = record {
  command = datagram.command;
  index = datagram.index;
  address = datagram.address;
  length = length datagram.payload;
  irq = datagram.irq;
  counter = datagram.counter;
}

abbrev pub physical_words : ℕ → List ℕ
physical_words address =
    codes " adp " ++ four_digits (adp_of address) ++ codes " ado " ++ four_digits (ado_of address)

-- its address, by which slaves the command addresses: one number, or an ADP and an ADO
abbrev pub addressed_words : Addressing → ℕ → List ℕ
addressed_words Logical address = codes " log " ++ eight_digits address
addressed_words Nobody address = physical_words address
addressed_words AutoIncrement address = physical_words address
addressed_words ConfiguredStation address = physical_words address
addressed_words All address = physical_words address

-- the beginning of a datagram's line: its command's name and its index
abbrev pub named_words : DatagramHead → List ℕ
named_words head = codes "  " ++ name_of head.command ++ codes " index " ++ decimal head.index

-- what follows the address: the length of the data, the interrupts and the counter
abbrev pub counted_words : DatagramHead → List ℕ
counted_words head =
    codes " length " ++ decimal head.length ++ codes " irq " ++ four_digits head.irq
    ++ codes " counter " ++ decimal head.counter ++ codes " data "

-- a datagram's line as far as its data
abbrev pub datagram_words : DatagramHead → List ℕ
datagram_words head =
    named_words head ++ addressed_words (addressing head.command) head.address ++ counted_words head
