use Rattle.ecat_setup.specs.ProcessData.{made_pdo, mapped_pdo}
use Rattle.ecat_setup.proofs.DeviceLemmas.{numbered_more}
use Rattle.ecat_setup.proofs.process_data.made_up.Goals as goal

pub loop-k-preserved : goal.loop-k-preserved
loop-k-preserved c =
    numbered_more mapped_pdo (made_pdo c.args.direction c.args.length) _ _ _ _
    c.loop-k.invariant c.in_ok-push.ensures.items c.in_ok-made_pdo.ensures
