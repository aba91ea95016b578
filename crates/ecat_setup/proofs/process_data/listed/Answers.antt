use Rattle.std.proofs.Common.{◌∙◌, ◌%◌, ◌^◌, ℕ, ap}
use Rattle.ecat_setup.specs.ProcessData.{listed_at, listed_pdo, mapped_pdo}
use Rattle.ecat_setup.proofs.DeviceLemmas.{numbered_more}
use Rattle.ecat_setup.proofs.process_data.listed.Goals as goal

pub loop-k-preserved : goal.loop-k-preserved
loop-k-preserved c =
    let objects = c.args.objects.now in
    let direction = c.args.direction in
    numbered_more mapped_pdo
    (λ k. listed_pdo direction objects (listed_at objects direction.assigned k % 2 ^ 16)) _ _ _ _
    c.loop-k.invariant c.in_ok-push.ensures.items
    (c.in_ok-listed_pdo.ensures
    ∙ ap (λ (n : ℕ). listed_pdo direction objects (n % 2 ^ 16)) c.listed_at-number.ensures)
