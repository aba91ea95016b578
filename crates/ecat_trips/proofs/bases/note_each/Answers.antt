use Rattle.std.proofs.Common.{ap, ◌∙◌, set}
use Rattle.ecat_trips.specs.Bases.{noted}
use Rattle.ecat_trips.proofs.BasesLemmas.{set_mapped}
use Rattle.ecat_trips.proofs.bases.note_each.Goals as goal

pub loop-entry-preserved : goal.loop-entry-preserved
loop-entry-preserved c =
    let i = c.loop-entry.entry-index in
    ap (λ e. set c.loop-entry.told i e) c.note.ensures
    ∙ set_mapped (noted c.args.source) c.args.told.now c.loop-entry.told i _
    c.loop-entry-test.true c.loop-entry.invariant
