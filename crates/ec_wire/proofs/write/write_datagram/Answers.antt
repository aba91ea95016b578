use Rattle.std.proofs.Common.{◌≡◌, ◌+◌, ◌∷◌, [], ◌∙◌, ap, length, rules, arith}
use Rattle.std.specs.Int.{w16, to_le_bytes}
use Rattle.ec_wire.specs.Datagram.{record_of}
use Rattle.ec_wire.specs.Spelling.{length_word}
use Rattle.ec_wire.proofs.WriteLemmas.{overwritten, overwritten-datagram}
use Rattle.ec_wire.proofs.write.write_datagram.Goals as goal

pub returns : goal.returns
returns c =
    let at = c.args.at in
    let written = c.args.written.now in
    let word : c.length_field-field.result ≡ length_word c.args.more (record_of written) = cc in
    let place : at + 10 + c.len-length.result ≡ at + 10 + length written.payload.items = cc in
    overwritten-datagram at c.args.more (record_of written) c.args.cells.now.bytes c.put.new.self.bytes
    c.put-2.new.self.bytes c.put-3.new.self.bytes c.put-4.new.self.bytes c.put-5.new.self.bytes
    c.put-6.new.self.bytes (let room = c.requires in
    let size : length c.args.cells.now.bytes ≡ 1500 = search rules in omega arith)
    (c.put.ensures ∙ ap (λ n. overwritten at (n ∷ written.index ∷ []) c.args.cells.now.bytes) c.code.ensures)
    (c.put-2.ensures ∙ ap (λ p. overwritten (at + 2) p c.put.new.self.bytes) c.to_le_bytes.ensures)
    (c.put-3.ensures
    ∙ ap (λ p. overwritten (at + 6) p c.put-2.new.self.bytes)
    (c.to_le_bytes-2.ensures ∙ ap (to_le_bytes w16) word))
    (c.put-4.ensures ∙ ap (λ p. overwritten (at + 8) p c.put-3.new.self.bytes) c.to_le_bytes-3.ensures)
    (c.put-5.ensures ∙ ap (λ p. overwritten (at + 10) p c.put-4.new.self.bytes) c.as_slice.ensures.value)
    (c.put-6.ensures ∙ ap (λ n. overwritten n c.to_le_bytes-4.result c.put-5.new.self.bytes) place
    ∙ ap (λ p. overwritten (at + 10 + length written.payload.items) p c.put-5.new.self.bytes)
    c.to_le_bytes-4.ensures)
