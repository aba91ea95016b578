use Rattle.std.proofs.Common.{◌≡◌, set, ap, refl, ◌∙◌}
use Rattle.ec_wire.specs.Datagram.{nth}
use Rattle.ec_merge.specs.Rule.{joined_count, joined_bits, joined_flag}
use Rattle.ecat_trips.proofs.SetLemmas.{set_again}
use Rattle.ecat_trips.proofs.copies.join_fields.Goals as goal

pub returns : goal.returns
returns c =
    let rs = c.args.into.now in
    let k = c.args.k in
    let s = nth c.args.sent.now k in
    let a = nth rs k in
    let b = nth c.args.other.now k in
    let flag : c.join-circulating.result.0 ≡ joined_flag s.circulating a.circulating b.circulating
    = ap (λ x. x.0) c.join-circulating.ensures
    ∙ rw (c.circulating.ensures, c.circulating-2.ensures, c.circulating-3.ensures) refl in
    let irq : c.join-irq.result.0 ≡ joined_bits s.irq a.irq b.irq
    = ap (λ x. x.0) c.join-irq.ensures ∙ rw (c.irq.ensures, c.irq-2.ensures, c.irq-3.ensures) refl in
    let count : c.join-counter.result.0 ≡ joined_count s.counter a.counter b.counter
    = ap (λ x. x.0) c.join-counter.ensures
    ∙ rw (c.counter.ensures, c.counter-2.ensures, c.counter-3.ensures) refl in
    let flagged : c.set_circulating.new.self
    ≡ set rs k (record a { circulating = c.join-circulating.result.0 }) = c.set_circulating.ensures in
    let requested =
    set_again (λ r. record r { irq = c.join-irq.result.0 }) rs c.set_circulating.new.self c.set_irq.new.self k
    (record a { circulating = c.join-circulating.result.0 }) c.requires.into flagged c.set_irq.ensures in
    let counted =
    set_again (λ r. record r { counter = c.join-counter.result.0 }) rs c.set_irq.new.self
    c.set_counter.new.self k
    (record a { circulating = c.join-circulating.result.0; irq = c.join-irq.result.0 }) c.requires.into
    requested c.set_counter.ensures in
    counted ∙ (λ t. set rs k (record a { circulating = flag t; irq = irq t; counter = count t }))
