use Rattle.std.proofs.Common.{ap, ◌∙◌, set}
use Rattle.ecat_told.specs.Known.{at_station}
use Rattle.ecat_told.proofs.Mapped.{set_mapped}
use Rattle.ecat_told.proofs.known.tell_station.Goals as goal

pub loop-slave-preserved : goal.loop-slave-preserved
loop-slave-preserved c =
    let i = c.loop-slave.slave-index in
    ap (λ s. set c.loop-slave.slaves i s) c.take_at.ensures
    ∙ set_mapped (at_station c.args.how c.args.holders c.args.station c.args.register c.args.values.now)
    c.args.slaves.now c.loop-slave.slaves i _ c.loop-slave-test.true c.loop-slave.invariant
