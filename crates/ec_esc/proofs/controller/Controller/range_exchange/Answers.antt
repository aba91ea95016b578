use Rattle.std.proofs.Common.{true, length, sym, ◌∙◌, subst}
use Rattle.ec_wire.specs.Datagram.{DatagramRecord, nth, ado}
use Rattle.ec_esc.specs.Pass.{Half, where_served, range_sources, range_read, range_taken, IsServed}
use Rattle.ec_esc.proofs.controller.Controller.range_exchange.Goals as goal

pub returns-then-serves_write : goal.returns-then-serves_write
returns-then-serves_write c =
    let s = c.args.self.now in
    let d : DatagramRecord = nth c.args.frame.now c.args.k in
    let n = length d.payload in
    let reading : Half = range_read true (range_sources (ado d)) s (ado d) n in
    subst (λ b. IsServed (record {
      reading = reading;
      writing = where_served b (range_taken 2 s (ado d) n);
    }) c.args.k c.args.frame.now s c.served_exchange.new.frame c.served_exchange.new.self)
    (sym (sym c.serves_write.ensures.value ∙ c.if-serves_write.true)) c.served_exchange.ensures

pub returns-else-serves_write : goal.returns-else-serves_write
returns-else-serves_write c =
    let s = c.args.self.now in
    let d : DatagramRecord = nth c.args.frame.now c.args.k in
    let n = length d.payload in
    let reading : Half = range_read true (range_sources (ado d)) s (ado d) n in
    subst (λ b. IsServed (record {
      reading = reading;
      writing = where_served b (range_taken 2 s (ado d) n);
    }) c.args.k c.args.frame.now s c.range_read.new.frame c.range_read.new.self)
    (sym (sym c.serves_write.ensures.value ∙ c.if-serves_write.false)) c.range_read.ensures
