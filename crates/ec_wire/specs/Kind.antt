-- The kinds of items that a cycle carries, and the command of each (IEC 61158-4-12, the command field of a
-- datagram).
use Rattle.ec_wire.specs.declared.command.Command as commands
use Rattle.ec_wire.specs.declared.command.Command.{Command}
use Rattle.ec_wire.specs.declared.kind.Kind.{Kind}
use Rattle.ec_wire.specs.declared.kind.Kind.TheVariants.{Lrd, Lwr, Lrw, Brd, Fprd, Fpwr}

-- the command of a kind
abbrev pub command_of : Kind → Command
command_of Lrd = commands.TheVariants.Lrd
command_of Lwr = commands.TheVariants.Lwr
command_of Lrw = commands.TheVariants.Lrw
command_of Brd = commands.TheVariants.Brd
command_of Fprd = commands.TheVariants.Fprd
command_of Fpwr = commands.TheVariants.Fpwr
