use Rattle.std.proofs.Common.{arith}
use Rattle.ec_check.proofs.HullLemmas.{IsHullOf-uncounted, IsHullOf-unmapped, IsHullOf-run}
use Rattle.ec_check.proofs.hulls.hull_if.Goals as goal

pub returns-then-not-counts : goal.returns-then-not-counts
returns-then-not-counts c =
    IsHullOf-uncounted c.args.counts c.args.fmmu.now c.of_no_bits.result c.if-not-counts.true
    c.of_no_bits.ensures

pub returns-then-bits-eq0 : goal.returns-then-bits-eq0
returns-then-bits-eq0 c =
    IsHullOf-unmapped c.args.counts c.args.fmmu.now c.of_no_bits-then-bits-eq0.result
    (rw (← c.mapped_bits-bits.ensures.value) c.if-bits-eq0.true) c.of_no_bits-then-bits-eq0.ensures

pub returns : goal.returns
returns c =
    rw (c.from.ensures, c.first_logical-first.ensures.value, c.mapped_bits-bits.ensures.value)
    (IsHullOf-run c.args.counts c.args.fmmu.now c.if-not-counts.false
    (omega (arith, c.mapped_bits-bits.ensures.value, c.if-bits-eq0.false))
    (omega (arith, c.mapped_bits-bits.ensures, c.first_logical-first.ensures)))
