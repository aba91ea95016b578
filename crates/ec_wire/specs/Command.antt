-- What a command says: which slaves it addresses, which ways its data go, and its name (IEC 61158-4-12, the
-- command field of a datagram).
use Rattle.std.specs.Prelude.{ℕ, Bool, true, false, List, codes}
use Rattle.ec_wire.specs.declared.command.Command.{Command}
use Rattle.ec_wire.specs.declared.command.Command.TheVariants.{Nop, Aprd, Apwr, Aprw, Fprd, Fpwr, Fprw, Brd}
use Rattle.ec_wire.specs.declared.command.Command.TheVariants.{Bwr, Brw}
use Rattle.ec_wire.specs.declared.command.Command.TheVariants.{Lrd, Lwr, Lrw, Armw, Frmw}
use Rattle.ec_wire.specs.declared.command.Addressing.{Addressing}
use Rattle.ec_wire.specs.declared.command.Addressing.TheVariants.{Nobody, AutoIncrement}
use Rattle.ec_wire.specs.declared.command.Addressing.TheVariants.{ConfiguredStation, All, Logical}

-- which slaves a command addresses; NOP addresses none, and BRW, ARMW and FRMW none of these slaves
abbrev pub addressing : Command → Addressing
addressing Aprd = AutoIncrement
addressing Apwr = AutoIncrement
addressing Aprw = AutoIncrement
addressing Fprd = ConfiguredStation
addressing Fpwr = ConfiguredStation
addressing Fprw = ConfiguredStation
addressing Brd = All
addressing Bwr = All
addressing Lrd = Logical
addressing Lwr = Logical
addressing Lrw = Logical
addressing _ = Nobody

-- does a slave that is addressed fill the data
abbrev pub reads : Command → Bool
reads Aprd = true
reads Aprw = true
reads Fprd = true
reads Fprw = true
reads Brd = true
reads Lrd = true
reads Lrw = true
reads _ = false

-- does it take them
abbrev pub writes : Command → Bool
writes Apwr = true
writes Aprw = true
writes Fpwr = true
writes Fprw = true
writes Bwr = true
writes Lwr = true
writes Lrw = true
writes _ = false

-- do slaves count up an ADP that addresses them so: by place, and all of them
abbrev pub is_counted : Addressing → Bool
is_counted AutoIncrement = true
is_counted All = true
is_counted _ = false

-- does each slave count up the command's ADP
abbrev pub counts_adp : Command → Bool
counts_adp command = is_counted (addressing command)

-- the name of a command
abbrev pub name_of : Command → List ℕ
name_of Nop = codes "NOP"
name_of Aprd = codes "APRD"
name_of Apwr = codes "APWR"
name_of Aprw = codes "APRW"
name_of Fprd = codes "FPRD"
name_of Fpwr = codes "FPWR"
name_of Fprw = codes "FPRW"
name_of Brd = codes "BRD"
name_of Bwr = codes "BWR"
name_of Brw = codes "BRW"
name_of Lrd = codes "LRD"
name_of Lwr = codes "LWR"
name_of Lrw = codes "LRW"
name_of Armw = codes "ARMW"
name_of Frmw = codes "FRMW"
