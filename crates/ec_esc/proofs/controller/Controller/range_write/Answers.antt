use Rattle.std.proofs.Common.{sym, ◌∙◌}
use Rattle.ec_esc.proofs.ServedLemmas.{IsServed-range_write, IsServed-untaken}
use Rattle.ec_esc.proofs.controller.Controller.range_write.Goals as goal

pub returns-then-serves_write : goal.returns-then-serves_write
returns-then-serves_write c =
    IsServed-range_write c.args.self.now c.take_data.new.self c.args.frame.now c.add_to_counter.new.frame
    c.args.k c.requires.arrives (sym c.serves_write.ensures.value ∙ c.if-serves_write.true)
    c.add_to_counter.ensures (c.take_data.ensures 1)

pub returns-else-serves_write : goal.returns-else-serves_write
returns-else-serves_write c =
    IsServed-untaken c.args.self.now c.args.frame.now c.args.k c.requires.arrives
    (sym c.serves_write.ensures.value ∙ c.if-serves_write.false)
