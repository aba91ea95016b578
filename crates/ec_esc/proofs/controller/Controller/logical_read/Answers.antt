use Rattle.std.proofs.Common.{◌≡◌, true, length, refl, sym, ◌∙◌, subst, None}
use Rattle.ec_wire.specs.Datagram.{DatagramRecord, nth}
use Rattle.ec_esc.specs.Pass.{Half, where_served, only_reads, read_sources, serves_read, IsServed}
use Rattle.ec_esc.proofs.ServedLemmas.{IsServed-read, IsServed-unmapped}
use Rattle.ec_esc.proofs.controller.Controller.logical_read.Goals as goal

pub returns-then-fill_data : goal.returns-then-fill_data
returns-then-fill_data c =
    let s = c.args.self.now in
    let rs = c.args.frame.now in
    let k = c.args.k in
    let d : DatagramRecord = nth rs k in
    let half : Half = record { places = read_sources s d.address; gain = 1; mail = None } in
    let met : serves_read s d.address (length d.payload) ≡ true = sym c.fill_data.ensures.served
    ∙ c.if-fill_data.true in
    subst (λ b. IsServed (only_reads (where_served b half)) k rs s c.add_to_counter.new.frame s) (sym met)
    (IsServed-read half s s rs c.fill_data.new.frame c.add_to_counter.new.frame k c.requires.inside
    c.requires.arrives c.fill_data.ensures.frame c.add_to_counter.ensures refl)

pub returns-else-fill_data : goal.returns-else-fill_data
returns-else-fill_data c =
    IsServed-unmapped c.args.self.now c.args.frame.now c.fill_data.new.frame c.args.k c.requires.arrives
    c.fill_data.ensures.frame (sym c.fill_data.ensures.served ∙ c.if-fill_data.false)
