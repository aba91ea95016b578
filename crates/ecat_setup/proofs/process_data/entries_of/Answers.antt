use Rattle.std.proofs.Common.{◌/◌}
use Rattle.ecat_setup.specs.ProcessData.{made_entry}
use Rattle.ecat_setup.proofs.DeviceLemmas.{numbered_next}
use Rattle.ecat_setup.proofs.process_data.entries_of.Goals as goal

pub loop-k-preserved : goal.loop-k-preserved
loop-k-preserved c =
    numbered_next (made_entry c.args.index (c.args.bytes / 4)) _ _ _ _
    c.loop-k.invariant c.in_ok-push.ensures.items c.made_entry.ensures
