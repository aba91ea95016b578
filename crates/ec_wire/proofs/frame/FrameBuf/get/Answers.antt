use Rattle.std.proofs.Common.{◌≡◌, ◌++◌, ◌∙◌, ap}
use Rattle.ec_wire.specs.Datagram.{nth}
use Rattle.ec_wire.proofs.DatagramLemmas.{record-same}
use Rattle.ec_wire.proofs.frame.FrameBuf.get.Goals as goal

pub returns : goal.returns
returns c =
    let payload : c.try_extend_from_slice.new.self.items ≡ (nth c.args.self.now c.args.k).payload =
    rw c.unwrap.ensures at c.try_extend_from_slice.ensures.ok
    ∙ ap (λ xs. xs ++ c.data.result.now) c.new-payload.ensures ∙ c.data.ensures.value in
    record-same (nth c.args.self.now c.args.k) c.command.ensures c.index.ensures c.address.ensures
    c.circulating.ensures c.irq.ensures payload c.counter.ensures
