use Rattle.std.proofs.Common.{◌≡◌, ◌+◌, ℕ, List, length, set, sym, ◌∙◌, ap}
use Rattle.ec_regs.specs.Bits.{with_bits}
use Rattle.ec_wire.specs.Datagram.{DatagramRecord, nth}
use Rattle.ec_esc.specs.Pass.{Effect, mapped_read, mapped_write, written_by, counter_after}
use Rattle.ec_esc.proofs.ServedLemmas.{IsServed-both, read_placed, read_by_mapped}
use Rattle.ec_esc.proofs.controller.Controller.logical_exchange.Goals as goal

pub returns : goal.returns
returns c =
    let s = c.args.self.now in
    let rs = c.args.frame.now in
    let k = c.args.k in
    let d : DatagramRecord = nth rs k in
    let n = length d.payload in
    let e : Effect = record { reading = mapped_read s d.address n; writing = mapped_write 2 s d.address n } in
    let filled = c.exchange_data-gain.new.frame in
    let filled_is : filled ≡ set rs k (record d { payload = with_bits d.payload s.memory e.reading.places }) =
    c.exchange_data-gain.ensures.frame
    ∙ ap (λ (p : List ℕ). set rs k (record d { payload = p })) (read_placed s d.address d.payload
    c.requires.arrives.payload) in
    let raised_is : c.add_to_counter.new.frame ≡ set filled k (record (nth filled k) {
      counter = counter_after (nth filled k) (e.reading.gain + e.writing.gain);
    }) = c.add_to_counter.ensures
    ∙ ap (λ (m : ℕ). set filled k (record (nth filled k) { counter = counter_after (nth filled k) m }))
    c.exchange_data-gain.ensures.gain in
    IsServed-both e s c.exchange_data-gain.new.self rs filled c.add_to_counter.new.frame k c.requires.inside
    filled_is raised_is
    (c.exchange_data-gain.ensures.state
    ∙ sym (read_by_mapped s (written_by e.writing d.payload s) d.address n))
