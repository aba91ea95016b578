use Rattle.std.proofs.Common.{◌≡◌, ◌∙◌, ◌+◌, length}
use Rattle.ec_wire.specs.Datagram.{nth}
use Rattle.ec_wire.specs.Frame.{start_of}
use Rattle.ec_wire.proofs.FrameLemmas.{Keeps-view, field-counter}
use Rattle.ec_wire.proofs.frame.FrameBuf.counter.Goals as goal

pub returns : goal.returns
returns c =
    let place : c.start.result + 10 + c.data_len.result
    ≡ start_of c.args.self.now c.args.k + 10 + length (nth c.args.self.now c.args.k).payload = cc in
    c.word.ensures
    ∙ field-counter _ _ _ _ c.args.k (c.start.result + 10 + c.data_len.result)
    (Keeps-view c.self.invariant c.self.view_is) c.requires place
