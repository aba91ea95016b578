use Rattle.std.proofs.Common.{◌≡◌, ◌+◌, ◌-◌, ◌∙◌, ap, length, take, false, arith}
use Rattle.std.specs.Int.{w16, to_le_bytes}
use Rattle.ec_wire.specs.Datagram.{nth}
use Rattle.ec_wire.specs.Spelling.{header, length_word}
use Rattle.ec_wire.specs.Frame.{start_of, Keeps}
use Rattle.ec_wire.proofs.SpellingLemmas.{records_at-keeps, Keeps-seen}
use Rattle.ec_wire.proofs.FrameLemmas.{Keeps-view}
use Rattle.ec_wire.proofs.WriteLemmas.{overwritten, Keeps-pop}
use Rattle.ec_wire.proofs.frame.FrameBuf.pop.Goals as goal

-- the frame keeps its datagrams without the last
kept_new : (c : goal.After-self-1)
    → Keeps c.put-2.new.self.bytes c.start-end.result c.truncate.new.self.items
    (take (length c.args.self.now - 1) c.args.self.now)
kept_new c =
    let rs = c.args.self.now in
    let kept = Keeps-view c.self.invariant c.self.view_is in
    let j = length rs - 2 in
    let some = c.requires in
    let k : c.count-last.result ≡ length rs = c.count-last.ensures.count in
    let last : c.count-last.result - 1 ≡ j + 1 = omega (arith, k, some) in
    let place : c.count-last.result - 1 - 1 ≡ j = omega (arith, k, some) in
    let end_is : c.start-end.result ≡ start_of rs (j + 1) =
    c.start-end.ensures.value ∙ ap (λ n. start_of rs n) last in
    let at : c.start-field_at.result + 6 ≡ start_of rs j + 6 =
    ap (λ n. n + 6) (c.start-field_at.ensures.value ∙ ap (λ n. start_of rs n) place) in
    let field : c.length_field-field.result ≡ length_word false (nth rs (c.count-last.result - 1 - 1)) = cc in
    let word : c.to_le_bytes.result ≡ to_le_bytes w16 (length_word false (nth rs j)) =
    c.to_le_bytes.ensures ∙ ap (to_le_bytes w16) (field ∙ ap (λ n. length_word false (nth rs n)) place) in
    let less : c.put.new.self.bytes
    ≡ overwritten (start_of rs j + 6) (to_le_bytes w16 (length_word false (nth rs j)))
    c.self.inside.cells.bytes =
    c.put.ensures ∙ ap (λ n. overwritten n c.to_le_bytes.result c.self.inside.cells.bytes) at
    ∙ ap (λ p. overwritten (start_of rs j + 6) p c.self.inside.cells.bytes) word in
    let header_is : c.to_le_bytes-2.result ≡ header (start_of rs (j + 1) - 2) =
    c.to_le_bytes-2.ensures
    ∙ ap (to_le_bytes w16) (c.header_field.ensures ∙ ap (λ n. n - 2 + 4096) end_is) in
    let headed : c.put-2.new.self.bytes ≡ overwritten 0 (header (start_of rs (j + 1) - 2)) c.put.new.self.bytes =
    c.put-2.ensures ∙ ap (λ p. overwritten 0 p c.put.new.self.bytes) header_is in
    let starts : c.truncate.new.self.items ≡ take (j + 1) c.self.inside.starts.items =
    c.truncate.ensures.items ∙ ap (λ n. take n c.self.inside.starts.items) last in
    let one : length rs - 1 ≡ j + 1 = omega (arith, some) in
    rw (one, end_is) (Keeps-pop c.self.inside.cells.bytes c.put.new.self.bytes c.put-2.new.self.bytes
    c.self.inside.size c.self.inside.starts.items c.truncate.new.self.items rs j kept (omega (arith, some)) less
    headed starts)

pub invariant_of-self : goal.invariant_of-self
invariant_of-self c = Keeps-seen _ _ _ _ (kept_new c)

pub returns : goal.returns
returns c = records_at-keeps _ _ _ _ (kept_new c)
