use Rattle.std.proofs.Common.{◌≡◌, ◌≤◌, ℕ, ◌+◌, ◌∷◌, [], ◌++◌, ◌∙◌, ap, length, arith}
use Rattle.std.proofs.lemmas.List.{length-replicate}
use Rattle.std.specs.Int.{w16, to_le_bytes}
use Rattle.ec_wire.specs.Datagram.{record_of, datagram_length}
use Rattle.ec_wire.specs.Spelling.{header}
use Rattle.ec_wire.specs.Frame.{Keeps}
use Rattle.ec_wire.specs.declared.layout.TheConstants.{MAX_LENGTH}
use Rattle.ec_wire.proofs.SpellingLemmas.{records_at-keeps, Keeps-seen}
use Rattle.ec_wire.proofs.WriteLemmas.{overwritten, Keeps-of}
use Rattle.ec_wire.proofs.frame.FrameBuf.of.Goals as goal

-- the frame keeps the one datagram
kept_new : (c : goal.After-push)
    → Keeps c.write_datagram.new.cells.bytes (2 + c.wire_length-length.result) c.push.new.self.items
    (record_of c.args.datagram.now ∷ [])
kept_new c =
    let r = record_of c.args.datagram.now in
    let size : c.wire_length-length.result ≡ datagram_length r = c.wire_length-length.ensures.value in
    let room : datagram_length r ≤ MAX_LENGTH = omega (arith, c.wire_length-length.ensures.room) in
    let blank_cells : length c.new-cells.result.bytes ≡ 1500 =
    ap length c.new-cells.ensures ∙ length-replicate {A = ℕ} 1500 0 in
    let word : c.to_le_bytes.result ≡ header (datagram_length r) =
    c.to_le_bytes.ensures ∙ ap (to_le_bytes w16) (c.header_field.ensures ∙ ap (λ n. n + 4096) size) in
    let headed : c.put.new.self.bytes ≡ overwritten 0 (header (datagram_length r)) c.new-cells.result.bytes =
    c.put.ensures ∙ ap (λ p. overwritten 0 p c.new-cells.result.bytes) word in
    let starts : c.push.new.self.items ≡ 2 ∷ [] =
    c.push.ensures.items ∙ ap (λ xs. xs ++ 2 ∷ []) c.new-starts.ensures in
    rw size (Keeps-of c.new-cells.result.bytes c.put.new.self.bytes c.write_datagram.new.cells.bytes
    c.push.new.self.items r blank_cells c.wire_length-length.ensures.fits room headed c.write_datagram.ensures
    starts)

pub invariant_of-result : goal.invariant_of-result
invariant_of-result c = Keeps-seen _ _ _ _ (kept_new c)

pub returns : goal.returns
returns c = records_at-keeps _ _ _ _ (kept_new c)
