use Rattle.std.proofs.Common.{◌≡◌, ◌≤◌, ◌+◌, ◌-◌, ◌∷◌, [], ◌++◌, ◌∙◌, ap, length, true, lit<, arith}
use Rattle.std.specs.Int.{w16, to_le_bytes}
use Rattle.ec_wire.specs.Datagram.{record_of, datagram_length, nth}
use Rattle.ec_wire.specs.Spelling.{header, length_word}
use Rattle.ec_wire.specs.Frame.{start_of, Keeps}
use Rattle.ec_wire.proofs.SpellingLemmas.{records_at-keeps, Keeps-seen}
use Rattle.ec_wire.proofs.FrameLemmas.{Keeps-view, length-kept, twelve_each, some-kept}
use Rattle.ec_wire.proofs.WriteLemmas.{overwritten, Keeps-push}
use Rattle.ec_wire.proofs.frame.FrameBuf.push.Goals as goal

-- the frame keeps its datagrams and the new one
kept_new : (c : goal.After-self-1)
    → Keeps c.put-2.new.self.bytes (c.self.inside.size + c.wire_length.result) c.push.new.self.items
    (c.args.self.now ++ record_of c.args.datagram.now ∷ [])
kept_new c =
    let kept = Keeps-view c.self.invariant c.self.view_is in
    let rs = c.args.self.now in
    let r = record_of c.args.datagram.now in
    let size = c.self.inside.size in
    let k = c.count-last.result - 1 in
    let long : c.wire_length.result ≡ datagram_length r = c.wire_length.ensures.value in
    let last : k + 1 ≡ length rs = omega (arith, c.count-last.ensures.count, some-kept _ _ _ _ kept) in
    let room : size + datagram_length r ≤ 1500 = omega (arith, c.if-end-gt-MAX_FRAME.false) in
    let place : c.start-field_at.result + 6 ≡ start_of rs k + 6 =
    ap (λ n. n + 6) c.start-field_at.ensures.value in
    let word : c.to_le_bytes.result ≡ to_le_bytes w16 (length_word true (nth rs k)) =
    c.to_le_bytes.ensures
    ∙ ap (to_le_bytes w16) (let field : c.length_field-field.result ≡ length_word true (nth rs k) = cc in
    field) in
    let more : c.put.new.self.bytes
    ≡ overwritten (start_of rs k + 6) (to_le_bytes w16 (length_word true (nth rs k)))
    c.self.inside.cells.bytes =
    c.put.ensures ∙ ap (λ n. overwritten n c.to_le_bytes.result c.self.inside.cells.bytes) place
    ∙ ap (λ p. overwritten (start_of rs k + 6) p c.self.inside.cells.bytes) word in
    let header_is : c.to_le_bytes-2.result ≡ header (size + datagram_length r - 2) =
    c.to_le_bytes-2.ensures
    ∙ ap (to_le_bytes w16) (c.header_field.ensures ∙ ap (λ n. size + n - 2 + 4096) long) in
    let headed : c.put-2.new.self.bytes
    ≡ overwritten 0 (header (size + datagram_length r - 2)) c.write_datagram.new.cells.bytes =
    c.put-2.ensures ∙ ap (λ p. overwritten 0 p c.write_datagram.new.cells.bytes) header_is in
    rw long (Keeps-push c.self.inside.cells.bytes c.put.new.self.bytes c.write_datagram.new.cells.bytes
    c.put-2.new.self.bytes size c.self.inside.starts.items c.push.new.self.items rs k r kept last
    c.wire_length.ensures.fits room more c.write_datagram.ensures headed c.push.ensures.items)

pub push-requires : goal.push-requires
push-requires c =
    let kept = Keeps-view c.self.invariant c.self.view_is in
    let room = c.if-end-gt-MAX_FRAME.false in
    let long = c.wire_length.ensures.value in
    (lit< tt, omega (arith, length-kept _ _ _ _ kept, twelve_each c.args.self.now, kept.size_is))

pub invariant_of-self : goal.invariant_of-self
invariant_of-self c = Keeps-seen _ _ _ _ (kept_new c)

pub returns-clause-ok : goal.returns-clause-ok
returns-clause-ok c = records_at-keeps _ _ _ _ (kept_new c)
