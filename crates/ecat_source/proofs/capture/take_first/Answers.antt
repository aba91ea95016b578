-- The first packet's bytes are the header and the record behind it.
use Rattle.std.proofs.lemmas.Option.{IfSome_then}
use Rattle.std.proofs.lemmas.Result.{IfOk-weaker}
use Rattle.ecat_source.proofs.Fronts.{Takes-behind_header}
use Rattle.ecat_source.proofs.capture.take_first.Goals as goal

pub returns-clause-packet : goal.returns-clause-packet
returns-clause-packet g c =
    IfOk-weaker c.take_record.result _ _
    (λ found given.
    IfSome_then found given
    (λ packet second. Takes-behind_header c.args.input.now c.take_header.new.input c.take_record.new.input
    packet.bytes.items c.in_ok-take_header.ensures.ok second)) c.take_record.ensures.packet
