use Rattle.std.proofs.Common.{ap, ◌∙◌, set}
use Rattle.ecat_told.specs.Slave.{told_run}
use Rattle.ecat_told.proofs.Mapped.{set_mapped}
use Rattle.ecat_told.proofs.known.tell_all.Goals as goal

pub loop-slave-preserved : goal.loop-slave-preserved
loop-slave-preserved c =
    let i = c.loop-slave.slave-index in
    ap (λ s. set c.loop-slave.slaves i s) c.take.ensures
    ∙ set_mapped (told_run c.args.how c.args.register c.args.values.now) c.args.slaves.now c.loop-slave.slaves i
    _ c.loop-slave-test.true c.loop-slave.invariant
