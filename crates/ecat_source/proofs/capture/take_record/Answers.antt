-- A record's head, and then the packet's bytes.
use Rattle.std.proofs.Common.{arith, ◌≡◌, ◌++◌, sym, ◌∙◌, length, take}
use Rattle.std.proofs.lemmas.List.{take_all}
use Rattle.std.proofs.lemmas.Result.{err_from_is_err_and}
use Rattle.ecat_source.specs.Capture.{stored_length}
use Rattle.ecat_source.proofs.Consuming.{Consumes-append}
use Rattle.ecat_source.proofs.Fronts.{Explains-from_head, IsRecord-from_parts, stored_length-bytes}
use Rattle.ecat_source.proofs.capture.take_record.Goals as goal

pub returns-in_err-packet-clause-err : goal.returns-in_err-packet-clause-err
returns-in_err-packet-clause-err g c =
    let p = err_from_is_err_and c.from_residual-in_err-packet.result
    c.from_residual-in_err-packet.ensures.1 in
    let head = c.take.new.into in
    let whole : length head ≡ 16 = omega arith in
    let all : take c.in_ok-count.count head ≡ head = take_all _ _ (omega arith) in
    let taken = rw all at c.in_ok-count.ensures.taken in
    let says : c.from_le_bytes-stored.result ≡ stored_length head =
    c.from_le_bytes-stored.ensures ∙ sym (stored_length-bytes head) in
    let explains = rw says at c.in_err-packet.ensures.err in
    rw (p.1, p.2)
    (Explains-from_head head whole c.args.input.now c.take.new.self c.take_packet.new.input _ taken
    c.take.ensures.monotone (omega arith) explains)

pub returns-clause-packet : goal.returns-clause-packet
returns-clause-packet g c =
    let head = c.take.new.into in
    let packet = c.in_ok-packet.packet.bytes.items in
    let whole : length head ≡ 16 = omega arith in
    let all : take c.in_ok-count.count head ≡ head = take_all _ _ (omega arith) in
    let taken = rw all at c.in_ok-count.ensures.taken in
    let says : c.from_le_bytes-stored.result ≡ stored_length head =
    c.from_le_bytes-stored.ensures ∙ sym (stored_length-bytes head) in (
      head ++ packet,
      IsRecord-from_parts head whole packet (sym says ∙ sym c.in_ok-packet.ensures.stored)
          (omega (arith, c.in_ok-packet.ensures.stored)),
      Consumes-append _ c.take.new.self.ahead _ _ _ taken c.in_ok-packet.ensures.taken,
    )
