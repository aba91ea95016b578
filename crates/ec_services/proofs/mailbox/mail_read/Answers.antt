use Rattle.std.proofs.Common.{◌∙◌, ap}
use Rattle.std.proofs.lemmas.List.{take-replicate}
use Rattle.ec_wire.specs.declared.command.Command.TheVariants.{Fprd}
use Rattle.ec_wire.specs.Datagram.{address_of}
use Rattle.ec_services.specs.Ask.{request}
use Rattle.ec_services.proofs.mailbox.mail_read.Goals as goal

pub returns : goal.returns
returns c =
    c.request.ensures
    ∙ rw (c.address_of-address.ensures, c.from.ensures)
    (ap (request Fprd (address_of c.args.peer.now.station c.args.peer.now.from.start))
    (take-replicate c.args.peer.now.from.length 1486 0 c.requires.from.1))
