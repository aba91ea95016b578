use Rattle.std.proofs.Common.{◌≡◌, ◌+◌, ◌∙◌, ap, set, nat_lt}
use Rattle.std.specs.Int.{w16, to_le_bytes}
use Rattle.ec_wire.specs.Spelling.{length_word}
use Rattle.ec_wire.specs.Datagram.{nth}
use Rattle.ec_wire.specs.Frame.{Keeps}
use Rattle.ec_wire.proofs.SpellingLemmas.{more_behind, records_at-keeps, Keeps-seen}
use Rattle.ec_wire.proofs.FrameLemmas.{Keeps-view, more_behind-lt}
use Rattle.ec_wire.proofs.FieldLemmas.{Keeps-circulating}
use Rattle.ec_wire.proofs.frame.FrameBuf.set_circulating.Goals as goal

-- the frame keeps its datagrams with that one field replaced
kept_new : (c : goal.After-put)
    → Keeps c.put.new.self.bytes c.self.inside.size c.self.inside.starts.items
    (set c.args.self.now c.args.k
    (record (nth c.args.self.now c.args.k) { circulating = c.args.circulating }))
kept_new c =
    let more : nat_lt (c.args.k + 1) c.count.result ≡ more_behind c.args.k c.args.self.now =
    ap (λ n. nat_lt (c.args.k + 1) n) c.count.ensures.count ∙ more_behind-lt c.args.self.now c.args.k in
    let field : c.length_field-field.result
    ≡ length_word (more_behind c.args.k c.args.self.now)
    (record (nth c.args.self.now c.args.k) { circulating = c.args.circulating }) = cc in
    Keeps-circulating c.args.k c.args.circulating (Keeps-view c.self.invariant c.self.view_is) c.requires
    (c.to_le_bytes.ensures ∙ ap (to_le_bytes w16) field) (ap (λ n. n + 6) c.start-at.ensures.value)
    c.put.ensures

pub invariant_of-self : goal.invariant_of-self
invariant_of-self c = Keeps-seen _ _ _ _ (kept_new c)

pub returns : goal.returns
returns c = records_at-keeps _ _ _ _ (kept_new c)
