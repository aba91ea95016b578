use Rattle.std.proofs.Common.{◌≡◌, ◌+◌, length}
use Rattle.ec_wire.specs.Datagram.{nth}
use Rattle.ec_wire.specs.Frame.{start_of}
use Rattle.ec_wire.proofs.FrameLemmas.{Keeps-view, data-part}
use Rattle.ec_wire.proofs.frame.FrameBuf.data.Goals as goal

pub returns-clause-value : goal.returns-clause-value
returns-clause-value c =
    let kept = Keeps-view c.self.invariant c.self.view_is in
    let place : c.start-at.result + 10 ≡ start_of c.args.self.now c.args.k + 10 = cc in
    let till : c.start-at.result + 10 + c.data_len.result
    ≡ c.start-at.result + 10 + length (nth c.args.self.now c.args.k).payload = cc in
    rw c.as_slice.ensures.value
    (data-part _ _ _ _ c.args.k (c.start-at.result + 10) (c.start-at.result + 10 + c.data_len.result) kept
    c.requires place till)
