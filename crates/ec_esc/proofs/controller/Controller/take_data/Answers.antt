use Rattle.std.proofs.Common.{ℕ, List, length, ◌∙◌, ap}
use Rattle.ec_wire.specs.Datagram.{DatagramRecord, nth, ado}
use Rattle.ec_esc.specs.Pass.{range_taken, written_by}
use Rattle.ec_esc.proofs.controller.Controller.take_data.Goals as goal

pub returns : goal.returns
returns c n =
    let s = c.args.self.now in
    let d : DatagramRecord = nth c.args.frame.now c.args.k in
    c.write_range.ensures n
    ∙ ap (λ (from : ℕ). written_by (range_taken n s from (length c.data.result.now)) c.data.result.now s)
    c.ado.ensures
    ∙ ap (λ (ys : List ℕ). written_by (range_taken n s (ado d) (length ys)) ys s) c.data.ensures.value
