use Rattle.std.proofs.Common.{◌≡◌, ◌+◌, set, length}
use Rattle.ec_wire.specs.Datagram.{nth}
use Rattle.ec_wire.specs.Frame.{start_of, Keeps}
use Rattle.ec_wire.proofs.SpellingLemmas.{records_at-keeps, Keeps-seen}
use Rattle.ec_wire.proofs.FrameLemmas.{Keeps-view}
use Rattle.ec_wire.proofs.FieldLemmas.{Keeps-counter}
use Rattle.ec_wire.proofs.frame.FrameBuf.set_counter.Goals as goal

-- the frame keeps its datagrams with that one field replaced
kept_new : (c : goal.After-put)
    → Keeps c.put.new.self.bytes c.self.inside.size c.self.inside.starts.items
    (set c.args.self.now c.args.k (record (nth c.args.self.now c.args.k) { counter = c.args.counter }))
kept_new c =
    let place : c.start.result + 10 + c.data_len.result
    ≡ start_of c.args.self.now c.args.k + 10 + length (nth c.args.self.now c.args.k).payload = cc in
    Keeps-counter c.args.k (Keeps-view c.self.invariant c.self.view_is) c.requires c.ranges.counter.fits
    c.to_le_bytes.ensures place c.put.ensures

pub invariant_of-self : goal.invariant_of-self
invariant_of-self c = Keeps-seen _ _ _ _ (kept_new c)

pub returns : goal.returns
returns c = records_at-keeps _ _ _ _ (kept_new c)
