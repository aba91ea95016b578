-- What a listing tells of a packet, by its form.
use Rattle.std.specs.Prelude.{ℕ, Bool, true, false, if◌then◌else◌, List, []}
use Rattle.ec_wire.specs.Datagram.{DatagramRecord}
use Rattle.ecat_list.specs.Line.{lines_words}
use Rattle.ecat_list.specs.Note.{note_line_words}
use Rattle.ecat_list.specs.declared.line.Head.{Head}
use Rattle.ecat_list.specs.declared.line.Note.{Note}
use Rattle.ecat_list.specs.declared.line.Note.TheVariants.{«Type», Fragment}
use Rattle.ecat_list.specs.declared.line.Style.TheVariants.{Words, Csv}
use Rattle.ecat_list.specs.declared.listing.Form.{Form}
use Rattle.ecat_list.specs.declared.listing.Form.TheVariants.{Lines, Faults}

-- is the packet damaged or cut short
abbrev pub is_fault : Note → Bool
is_fault («Type» number) = false
is_fault Fragment = false
is_fault _ = true

-- of its datagrams: a line each, or where faults alone are told nothing
abbrev pub told_words : Form → Head → List DatagramRecord → List ℕ
told_words Lines head datagrams = lines_words Words head datagrams
told_words Faults head datagrams = []
told_words _ head datagrams = lines_words Csv head datagrams

-- of a packet that has none to show: its line, or where faults alone are told nothing if it is none
abbrev pub noted_words : Form → Head → Note → List ℕ
noted_words Lines head note = note_line_words Words head note
noted_words Faults head note = if is_fault note then note_line_words Words head note else []
noted_words _ head note = note_line_words Csv head note
