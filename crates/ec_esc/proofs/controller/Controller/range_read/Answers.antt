use Rattle.std.proofs.Common.{sym, ◌∙◌}
use Rattle.ec_wire.specs.Datagram.{nth, ado}
use Rattle.ec_esc.specs.Pass.{range_sources}
use Rattle.ec_esc.proofs.ServedLemmas.{filled_inside, IsServed-range_read, IsServed-unread}
use Rattle.ec_esc.proofs.controller.Controller.range_read.Goals as goal

pub finish_read-requires-clause-inside : goal.finish_read-requires-clause-inside
finish_read-requires-clause-inside c =
    filled_inside (range_sources (ado (nth c.args.frame.now c.args.k))) c.args.self.now c.args.frame.now
    c.copy_data.new.frame c.args.k c.requires.inside
    c.copy_data.ensures (c.serves_read.ensures.inside c.if-serves_read.true)

pub returns-then-serves_read : goal.returns-then-serves_read
returns-then-serves_read c =
    IsServed-range_read (range_sources (ado (nth c.args.frame.now c.args.k))) c.args.self.now
    c.finish_read.new.self c.args.frame.now c.copy_data.new.frame c.finish_read.new.frame c.args.k
    c.requires.inside c.requires.arrives (sym c.serves_read.ensures.value ∙ c.if-serves_read.true)
    c.copy_data.ensures c.finish_read.ensures.frame c.finish_read.ensures.state

pub returns-else-serves_read : goal.returns-else-serves_read
returns-else-serves_read c =
    IsServed-unread (range_sources (ado (nth c.args.frame.now c.args.k))) c.args.self.now c.args.frame.now
    c.args.k c.requires.arrives (sym c.serves_read.ensures.value ∙ c.if-serves_read.false)
