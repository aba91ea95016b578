use Rattle.std.proofs.Common.{◌∙◌, ap}
use Rattle.ecat_setup.specs.ProcessData.{entry_of, listed_at}
use Rattle.ecat_setup.proofs.DeviceLemmas.{numbered_next}
use Rattle.ecat_setup.proofs.process_data.entries_at.Goals as goal

pub loop-k-preserved : goal.loop-k-preserved
loop-k-preserved c =
    numbered_next (λ k. entry_of (listed_at c.args.objects.now c.args.index k)) _ _ _ _
    c.loop-k.invariant c.in_ok-push.ensures.items (c.entry_of.ensures ∙ ap entry_of c.listed_at.ensures)
