use Rattle.std.proofs.Common.{◌≡◌, ◌∙◌}
use Rattle.ec_esc.specs.Application.{lost_links, with_registers}
use Rattle.ec_esc.specs.State.{ControllerState, word_at}
use Rattle.ec_applications.specs.Links.{lost_after}
use Rattle.ec_applications.proofs.links.set_links.Goals as goal

pub returns : goal.returns
returns c =
    let old : ControllerState = c.args.controller.now in
    let lost : c.lost_after-lost.result
    ≡ lost_after (word_at old.memory 272) c.args.status (lost_links old) =
    c.lost_after-lost.ensures
    ∙ (λ i. lost_after (c.dl_status.ensures i) c.args.status (c.lost_links.ensures i)) in
    c.set_lost_links.ensures ∙ (λ i. with_registers (c.set_dl_status.ensures i) 784 (lost i))
