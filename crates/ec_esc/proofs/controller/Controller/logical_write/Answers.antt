use Rattle.std.proofs.Common.{sym, ◌∙◌}
use Rattle.ec_wire.specs.Datagram.{nth}
use Rattle.ec_esc.proofs.ServedLemmas.{mapped_as, serves_as, IsServed-mapped_write, IsServed-unwritten}
use Rattle.ec_esc.proofs.controller.Controller.logical_write.Goals as goal

pub returns-then-write_data : goal.returns-then-write_data
returns-then-write_data c =
    let s = c.args.self.now in
    let rs = c.args.frame.now in
    let k = c.args.k in
    let served = serves_as s c.write_data.result c.address.result c.data.result.now (nth rs k)
    c.address.ensures c.data.ensures.value c.write_data.ensures.served in
    IsServed-mapped_write s c.write_data.new.self rs c.add_to_counter.new.frame k c.requires.arrives
    (sym served ∙ c.if-write_data.true)
    c.add_to_counter.ensures
    (mapped_as 1 s c.write_data.new.self c.address.result c.data.result.now (nth rs k) c.address.ensures
    c.data.ensures.value (c.write_data.ensures.state 1))

pub returns-else-write_data : goal.returns-else-write_data
returns-else-write_data c =
    let s = c.args.self.now in
    let rs = c.args.frame.now in
    let k = c.args.k in
    let served = serves_as s c.write_data.result c.address.result c.data.result.now (nth rs k)
    c.address.ensures c.data.ensures.value c.write_data.ensures.served in
    IsServed-unwritten s c.write_data.new.self rs k c.requires.arrives (sym served ∙ c.if-write_data.false)
    (mapped_as 1 s c.write_data.new.self c.address.result c.data.result.now (nth rs k) c.address.ensures
    c.data.ensures.value (c.write_data.ensures.state 1))
