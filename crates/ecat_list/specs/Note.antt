-- The line of a packet that has no datagrams to show: what it is stands where a datagram's command does.
use Rattle.std.specs.Prelude.{◌++◌, List, ℕ, codes}
use Rattle.std.specs.Fmt.{decimal}
use Rattle.ec_wire.specs.Command.{name_of}
use Rattle.ecat_list.specs.Address.{address_words}
use Rattle.ecat_list.specs.Line.{head_words, nothing_words, separator}
use Rattle.ecat_list.specs.Shown.{wire_fault_words}
use Rattle.ecat_list.specs.declared.cut.CutDatagram.{CutDatagram}
use Rattle.ecat_list.specs.declared.line.Head.{Head}
use Rattle.ecat_list.specs.declared.line.Note.{Note}
use Rattle.ecat_list.specs.declared.line.Note.TheVariants.{«Type», Fragment, Short, BadLength, Fault, Cut}
use Rattle.ecat_list.specs.declared.line.Style.{Style}
use Rattle.ecat_list.specs.declared.line.Style.TheVariants.{Words, Csv}

-- the datagram in which a packet is cut: its command, its address, and of how many bytes its data are
abbrev pub cut_words : CutDatagram → List ℕ
cut_words datagram =
    codes " in " ++ name_of datagram.command ++ codes " " ++ address_words datagram.command datagram.address
    ++ codes " " ++ decimal datagram.length ++ codes " bytes"

-- what the packet is
abbrev pub note_words : Note → List ℕ
note_words («Type» number) = codes "type " ++ decimal number
note_words Fragment = codes "fragment"
note_words Short = codes "short"
note_words BadLength = codes "bad length"
note_words (Fault fault) = wire_fault_words fault
note_words (Cut fault datagram) = wire_fault_words fault ++ cut_words datagram

-- the columns behind it say nothing, and in CSV alone they are there
abbrev pub end_words : Style → List ℕ
end_words Words = codes "\n"
end_words Csv = codes ",,,,\n"

-- the line of such a packet
abbrev pub note_line_words : Style → Head → Note → List ℕ
note_line_words style head note =
    head_words style head ++ nothing_words style ++ separator style ++ note_words note ++ end_words style
