-- Whom a datagram asks, and for what (IEC 61158-4-12, addressing).
use Rattle.std.specs.Prelude.{ℕ, ◌-◌, ◌%◌, ◌&&◌, Bool, false, true, nat_le, nat_lt, Option, None, Some}
use Rattle.std.specs.Prelude.{length, if◌then◌else◌}
use Rattle.ec_wire.specs.Datagram.{DatagramRecord, adp, ado}
use Rattle.ec_wire.specs.declared.command.Command.{Command}
use Rattle.ec_wire.specs.declared.command.Command.TheVariants.{Aprd, Apwr, Aprw, Fprd, Fpwr, Fprw}
use Rattle.ec_wire.specs.declared.command.Command.TheVariants.{Lrd, Lwr, Lrw, Armw, Frmw}
use Rattle.ecat_replay.specs.declared.part.Part.{Part}
use Rattle.ecat_replay.specs.declared.part.Whom.{Whom}
use Rattle.ecat_replay.specs.declared.part.Whom.TheVariants.{All, Place, Station, Mapped}

-- whom a command with this ADP asks: the slave that the ADP comes to as 0, since each slave before it counts
-- it up by 1; the one with this station address; those that map the logical address; or all
abbrev pub whom_of : Command → ℕ → Whom
whom_of Aprd n = Place ((65536 - n) % 65536)
whom_of Apwr n = Place ((65536 - n) % 65536)
whom_of Aprw n = Place ((65536 - n) % 65536)
whom_of Armw n = Place ((65536 - n) % 65536)
whom_of Fprd n = Station n
whom_of Fpwr n = Station n
whom_of Fprw n = Station n
whom_of Frmw n = Station n
whom_of Lrd n = Mapped
whom_of Lwr n = Mapped
whom_of Lrw n = Mapped
whom_of _ n = All

-- is its address a register, and no logical address
abbrev pub has_registers : Whom → Bool
has_registers Mapped = false
has_registers _ = true

-- the part of a line that a datagram asks: from the register of its ADO on, or from its logical address on
unfoldable pub part_of : DatagramRecord → Part
part_of d =
    let whom = whom_of d.command (adp d) in
    record {
      command = d.command;
      whom = whom;
      address = if has_registers whom then ado d else d.address;
      count = length d.payload;
    }

-- the register where it begins, if it has one
abbrev pub register_of : Part → Option ℕ
register_of part = if has_registers part.whom && nat_lt part.address 65536 then Some part.address else None

-- is it a register of distributed clocks (IEC 61158-6-12)
abbrev pub is_clock : Part → Bool
is_clock part = has_registers part.whom && nat_le 0x0900 part.address && nat_lt part.address 0x0A00
