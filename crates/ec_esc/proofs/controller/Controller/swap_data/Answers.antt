use Rattle.std.proofs.Common.{ℕ, List, length, ◌∙◌, ap}
use Rattle.ec_wire.specs.Datagram.{DatagramRecord, nth, ado}
use Rattle.ec_esc.specs.Pass.{range_taken, written_by}
use Rattle.ec_esc.proofs.controller.Controller.swap_data.Goals as goal

pub returns-clause-state : goal.returns-clause-state
returns-clause-state c n =
    let s = c.args.self.now in
    let d : DatagramRecord = nth c.args.frame.now c.args.k in
    c.swap_range.ensures.state n
    ∙ ap (λ (from : ℕ). written_by (range_taken n s from (length c.data_mut.result.now))
    c.data_mut.result.now s) c.ado-from.ensures
    ∙ ap (λ (ys : List ℕ). written_by (range_taken n s (ado d) (length ys)) ys s) c.data_mut.ensures.value
