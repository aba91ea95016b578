-- The address of a datagram, as its command reads it.
use Rattle.std.specs.Prelude.{ℕ, ◌-◌, ◌++◌, ltb, if◌then◌else◌, List, codes}
use Rattle.std.specs.Fmt.{decimal}
use Rattle.ec_wire.specs.Datagram.{ado_of, adp_of}
use Rattle.ec_wire.specs.declared.command.Command.{Command}
use Rattle.ec_wire.specs.declared.command.Command.TheVariants.{Aprd, Apwr, Aprw, Armw, Lrd, Lwr, Lrw}
use Rattle.ecat_list.specs.Digits.{four_digits, eight_digits}
use Rattle.ecat_list.specs.declared.address.Kind.{Kind}
use Rattle.ecat_list.specs.declared.address.Kind.TheVariants.{Logical, Place, Station}

-- is it one number, or a place on the line and a register, or else a station's address and a register
abbrev pub kind_of : Command → Kind
kind_of Lrd = Logical
kind_of Lwr = Logical
kind_of Lrw = Logical
kind_of Aprd = Place
kind_of Apwr = Place
kind_of Aprw = Place
kind_of Armw = Place
kind_of _ = Station

-- a place on the line, a number of 16 bits with its sign
abbrev pub place_words : ℕ → List ℕ
place_words adp = if ltb adp 32768 then decimal adp else (codes "-" ++ decimal (65536 - adp))

-- a register behind a colon
abbrev pub register_words : ℕ → List ℕ
register_words address = codes ":0x" ++ four_digits (ado_of address)

abbrev pub words_by : Kind → ℕ → List ℕ
words_by Logical address = codes "0x" ++ eight_digits address
words_by Place address = place_words (adp_of address) ++ register_words address
words_by Station address = codes "0x" ++ four_digits (adp_of address) ++ register_words address

-- the address of a datagram of a command
abbrev pub address_words : Command → ℕ → List ℕ
address_words command address = words_by (kind_of command) address
