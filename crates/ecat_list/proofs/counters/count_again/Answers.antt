use Rattle.std.proofs.Common.{ap, ◌∙◌, set}
use Rattle.ecat_list.specs.Tally.{counts_again}
use Rattle.ecat_list.proofs.TallyLemmas.{set_mapped}
use Rattle.ecat_list.proofs.counters.count_again.Goals as goal

pub loop-count-preserved : goal.loop-count-preserved
loop-count-preserved c =
    let i = c.loop-count.count-index in
    ap (λ e. set c.loop-count.told i e) c.count.ensures
    ∙ set_mapped (counts_again c.args.counter) c.args.told.now c.loop-count.told i _
    c.loop-count-test.true c.loop-count.invariant
