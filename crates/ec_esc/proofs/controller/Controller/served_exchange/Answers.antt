use Rattle.std.proofs.Common.{sym, ◌∙◌}
use Rattle.ec_esc.proofs.ServedLemmas.{IsServed-exchange, IsServed-taken}
use Rattle.ec_esc.proofs.controller.Controller.served_exchange.Goals as goal

pub returns-then-serves_read : goal.returns-then-serves_read
returns-then-serves_read c =
    IsServed-exchange c.args.self.now c.swap_data.new.self c.args.frame.now c.swap_data.new.frame
    c.add_to_counter.new.frame c.args.k c.requires.inside c.requires.served
    (sym c.serves_read.ensures.value ∙ c.if-serves_read.true) c.swap_data.ensures.frame
    c.add_to_counter.ensures (c.swap_data.ensures.state 2)

pub returns-else-serves_read : goal.returns-else-serves_read
returns-else-serves_read c =
    IsServed-taken c.args.self.now c.take_data.new.self c.args.frame.now c.add_to_counter-else-serves_read.new.frame
    c.args.k c.requires.arrives (sym c.serves_read.ensures.value ∙ c.if-serves_read.false)
    c.add_to_counter-else-serves_read.ensures (c.take_data.ensures 2)
