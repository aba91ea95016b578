use Rattle.std.proofs.Common.{◌+◌, ap, set, refl}
use Rattle.ec_wire.specs.Datagram.{nth}
use Rattle.ec_wire.specs.Frame.{Keeps}
use Rattle.ec_wire.proofs.SpellingLemmas.{records_at-keeps, Keeps-seen}
use Rattle.ec_wire.proofs.FrameLemmas.{Keeps-view}
use Rattle.ec_wire.proofs.FieldLemmas.{Keeps-index}
use Rattle.ec_wire.proofs.frame.FrameBuf.set_index.Goals as goal

-- the frame keeps its datagrams with that one field replaced
kept_new : (c : goal.After-put)
    → Keeps c.put.new.self.bytes c.self.inside.size c.self.inside.starts.items
    (set c.args.self.now c.args.k (record (nth c.args.self.now c.args.k) { index = c.args.index }))
kept_new c =
    Keeps-index c.args.k (Keeps-view c.self.invariant c.self.view_is) c.requires c.ranges.index.fits
    refl (ap (λ n. n + 1) c.start-at.ensures.value) c.put.ensures

pub invariant_of-self : goal.invariant_of-self
invariant_of-self c = Keeps-seen _ _ _ _ (kept_new c)

pub returns : goal.returns
returns c = records_at-keeps _ _ _ _ (kept_new c)
