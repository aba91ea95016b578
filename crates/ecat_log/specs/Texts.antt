-- The words of a log: who speaks, a packet, its datagrams, what became of it.
use Rattle.std.specs.Prelude.{ℕ, ◌++◌, ◌-◌, ◌^◌, Bool, true, false, List, [], Option, None, Some, codes}
use Rattle.std.specs.Fmt.{decimal, digits, format_spec, padded_integral}
use Rattle.std.specs.Net.Text.{socket_text}
use Rattle.std.specs.declared.net.socket_addr.SocketAddr.{SocketAddr}
use Rattle.ec_wire.specs.Command.{addressing, name_of}
use Rattle.ec_wire.specs.Datagram.{ado_of, adp_of}
use Rattle.ec_wire.specs.declared.command.Addressing.{Addressing}
use Rattle.ec_wire.specs.declared.command.Addressing.TheVariants.{Nobody, AutoIncrement}
use Rattle.ec_wire.specs.declared.command.Addressing.TheVariants.{ConfiguredStation, All, Logical}
use Rattle.ec_wire.specs.declared.command.Command.{Command}
use Rattle.ec_wire.specs.declared.fault.FaultKind.{FaultKind}
use Rattle.ec_wire.specs.declared.fault.FaultKind.TheVariants.{Short, BadType, Reserved, Empty, TooLong}
use Rattle.ec_wire.specs.declared.fault.FaultKind.TheVariants.{BadCommand, Overrun, MoreAtEnd, LeftOver}
use Rattle.ec_wire.specs.declared.fault.FaultKind.TheVariants.{Trailing}
use Rattle.ec_wire.specs.declared.fault.WireFault.{WireFault}
use Rattle.ec_ring.specs.declared.port.Port.{Port}
use Rattle.ec_ring.specs.declared.port.Port.TheVariants.{A, B}
use Rattle.ecat_serve.specs.declared.watch.Leaving.{Leaving}
use Rattle.ecat_serve.specs.declared.watch.Leaving.TheVariants.{Nowhere, Lost, Unheard, Left}
use Rattle.ecat_log.specs.declared.hint.Hint.{Hint}
use Rattle.ecat_log.specs.declared.hint.Hint.TheVariants.{Padded, Ethernet, Neither}
use Rattle.ecat_log.specs.declared.texts.DatagramText.{DatagramText}

-- the hexadecimal digits of n, lower case, with zeros before them where they are fewer than `width`
abbrev pub hexadecimal : ℕ → ℕ → List ℕ
hexadecimal width n = padded_integral (format_spec 32 0 4 width (2 ^ 64 - 1)) false [] (digits 16 false n)

-- an end
abbrev pub end_words : Port → List ℕ
end_words A = codes "A"
end_words B = codes "B"

-- somebody who speaks at an end
unfoldable pub speaker_words : Port → SocketAddr → List ℕ
speaker_words at who = codes "speaker " ++ end_words at ++ codes " " ++ socket_text who

-- the cable at an end, and which link of the line is as it is now
abbrev pub plug_words : Bool → ℕ → List ℕ
plug_words true link = codes "carrier again: link " ++ decimal link ++ codes " up"
plug_words false link = codes "no carrier: link " ++ decimal link ++ codes " down"

unfoldable pub cable_words : Port → Bool → ℕ → List ℕ
cable_words at plugged link = codes "end " ++ end_words at ++ codes ": " ++ plug_words plugged link

-- a packet's number, its end and its size
unfoldable pub packet_words : ℕ → Port → ℕ → List ℕ
packet_words number at size =
    codes "packet " ++ decimal number ++ codes " " ++ end_words at ++ codes " size " ++ decimal size

-- ---- a datagram

-- an address, as the command has it
abbrev pub addressed_words : Addressing → ℕ → List ℕ
addressed_words Logical address = codes "log " ++ hexadecimal 8 address
addressed_words Nobody address =
    codes "adp " ++ hexadecimal 4 (adp_of address) ++ codes " ado " ++ hexadecimal 4 (ado_of address)
addressed_words AutoIncrement address =
    codes "adp " ++ hexadecimal 4 (adp_of address) ++ codes " ado " ++ hexadecimal 4 (ado_of address)
addressed_words ConfiguredStation address =
    codes "adp " ++ hexadecimal 4 (adp_of address) ++ codes " ado " ++ hexadecimal 4 (ado_of address)
addressed_words All address =
    codes "adp " ++ hexadecimal 4 (adp_of address) ++ codes " ado " ++ hexadecimal 4 (ado_of address)

-- a command and its address
unfoldable pub command_words : Command → ℕ → List ℕ
command_words command address =
    name_of command ++ codes " " ++ addressed_words (addressing command) address

-- a counter as it came and as it arrived, if it did
abbrev pub counter_words : ℕ → Option ℕ → List ℕ
counter_words came None = decimal came ++ codes ">-"
counter_words came (Some back) = decimal came ++ codes ">" ++ decimal back

-- the length of the data, and the counter
unfoldable pub served_words : ℕ → ℕ → Option ℕ → List ℕ
served_words length came back =
    codes "length " ++ decimal length ++ codes " counter " ++ counter_words came back

-- a datagram
abbrev pub datagram_words : DatagramText → List ℕ
datagram_words text =
    command_words text.command text.address ++ codes " " ++ served_words text.length text.came text.back

-- ---- what became of a packet

-- of a frame
abbrev pub leaving_words : Leaving → List ℕ
leaving_words Nowhere = codes "left nowhere"
leaving_words (Lost at) = codes "lost at " ++ end_words at
leaving_words (Unheard at) = codes "nobody at " ++ end_words at
leaving_words (Left at) = codes "left " ++ end_words at

-- a fault by its name
abbrev pub kind_words : FaultKind → List ℕ
kind_words Short = codes "Short"
kind_words BadType = codes "BadType"
kind_words Reserved = codes "Reserved"
kind_words Empty = codes "Empty"
kind_words TooLong = codes "TooLong"
kind_words BadCommand = codes "BadCommand"
kind_words Overrun = codes "Overrun"
kind_words MoreAtEnd = codes "MoreAtEnd"
kind_words LeftOver = codes "LeftOver"
kind_words Trailing = codes "Trailing"

-- a fault, and the index of the byte where it is
unfoldable pub fault_words : WireFault → List ℕ
fault_words fault = kind_words fault.kind ++ codes " at " ++ decimal fault.at

-- what the packet looks like
abbrev pub hint_words : Hint → List ℕ
hint_words Padded = codes " padded"
hint_words Ethernet = codes " ethernet"
hint_words Neither = []

-- of a packet that is no frame
unfoldable pub dropped_words : WireFault → Hint → List ℕ
dropped_words fault hint = codes "dropped " ++ fault_words fault ++ hint_words hint
