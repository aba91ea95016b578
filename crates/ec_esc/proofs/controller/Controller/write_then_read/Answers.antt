use Rattle.std.proofs.Common.{◌≡◌, ℕ, List, length, set, sym, ◌∙◌, ap}
use Rattle.ec_regs.specs.Bits.{with_bits}
use Rattle.ec_wire.specs.Datagram.{DatagramRecord, nth}
use Rattle.ec_esc.specs.Pass.{read_sources, serves_read, mapped_write, written_by}
use Rattle.ec_esc.specs.State.{ControllerState}
use Rattle.ec_esc.proofs.ExchangeLemmas.{read_after, serves_after}
use Rattle.ec_esc.proofs.ServedLemmas.{mapped_state, written_mapped, mapped_as, serves_as, gains_both}
use Rattle.ec_esc.proofs.controller.Controller.write_then_read.Goals as goal

-- the write is that of the datagram
written_is : (c : goal.After-exchange_gain) → c.write_data-is_written.new.self
    ≡ written_by (mapped_write 2 c.args.self.now (nth c.args.frame.now c.args.k).address
    (length (nth c.args.frame.now c.args.k).payload)) (nth c.args.frame.now c.args.k).payload c.args.self.now
written_is c =
    mapped_as 2 c.args.self.now c.write_data-is_written.new.self c.address.result c.data.result.now
    (nth c.args.frame.now c.args.k) c.address.ensures c.data.ensures.value
    (c.write_data-is_written.ensures.state 2)

-- it wrote through the FMMUs
mapped_is : (c : goal.After-exchange_gain) → c.write_data-is_written.new.self
    ≡ mapped_state c.args.self.now (nth c.args.frame.now c.args.k).address
    (nth c.args.frame.now c.args.k).payload
mapped_is c =
    let d : DatagramRecord = nth c.args.frame.now c.args.k in
    let fits = c.arrival.ensures.controller in
    written_is c ∙ sym (written_mapped c.args.self.now d.address d.payload 2 fits.memory fits.memory_size)

pub returns-clause-frame : goal.returns-clause-frame
returns-clause-frame c =
    let came = c.args.frame.now in
    let k = c.args.k in
    let d : DatagramRecord = nth came k in
    let fits = c.arrival.ensures.controller in
    c.fill_data-is_read.ensures.frame
    ∙ ap (λ (s : ControllerState). set came k (record d {
      payload = with_bits d.payload s.memory (read_sources s d.address);
    })) (mapped_is c)
    ∙ ap (λ (ys : List ℕ). set came k (record d { payload = ys }))
    (read_after c.args.self.now d.address d.payload c.requires.apart fits.memory_size fits.memory)

pub returns-clause-state : goal.returns-clause-state
returns-clause-state c = written_is c

pub returns-clause-gain : goal.returns-clause-gain
returns-clause-gain c =
    let s = c.args.self.now in
    let d : DatagramRecord = nth c.args.frame.now c.args.k in
    let fits = c.arrival.ensures.controller in
    let read : c.fill_data-is_read.result ≡ serves_read s d.address (length d.payload) =
    c.fill_data-is_read.ensures.served
    ∙ ap (λ (t : ControllerState). serves_read t d.address (length d.payload)) (mapped_is c)
    ∙ serves_after s d.address d.payload fits.memory_size fits.memory in
    let written = serves_as s c.write_data-is_written.result c.address.result c.data.result.now d
    c.address.ensures c.data.ensures.value c.write_data-is_written.ensures.served in
    c.exchange_gain.ensures ∙ gains_both s d.address (length d.payload) _ _ read written
