use Rattle.std.proofs.Common.{◌∙◌, ap, sym, length}
use Rattle.ec_wire.specs.declared.command.Command.TheVariants.{Fpwr}
use Rattle.ec_app.specs.Mail.{mail_bytes}
use Rattle.ec_services.specs.Mailbox.{request_mail}
use Rattle.ec_wire.specs.Datagram.{address_of}
use Rattle.ec_services.specs.Ask.{request}
use Rattle.ec_services.proofs.AreaLemmas.{mail_area}
use Rattle.ec_services.proofs.mailbox.mail_write.Goals as goal

pub returns : goal.returns
returns c =
    c.request.ensures
    ∙ rw
    (c.address_of-address.ensures, c.from.ensures, c.copy_from_slice.ensures.after, c.write.ensures.value)
    (ap (request Fpwr (address_of c.args.peer.now.station c.args.peer.now.to.start))
    (mail_area c.args.peer.now.to.length (mail_bytes (request_mail c.args.peer.now c.args.sdo.now))
    (sym (ap length (c.copy_from_slice.ensures.after ∙ c.write.ensures.value))
    ∙ c.copy_from_slice.ensures.len)
    c.requires.to.0 c.requires.to.1))
