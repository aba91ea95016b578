use Rattle.ecat_master.proofs.CountsLemmas.{counts_then, no_counts}
use Rattle.ecat_master.proofs.startup.count_until.Goals as goal

pub loop-count-init : goal.loop-count-init
loop-count-init g c = no_counts g.P.Ports.trips 0 c.args.ports.now

pub loop-count-preserved : goal.loop-count-preserved
loop-count-preserved g c =
    counts_then g.P.Ports.trips c.loop-count._count c.args.ports.now c.loop-count.ports
    c.count_slaves.new.ports _ c.loop-count.invariant c.count_slaves.ensures.counting
