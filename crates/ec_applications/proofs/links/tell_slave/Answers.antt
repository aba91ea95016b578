use Rattle.std.proofs.Common.{◌∙◌, ap}
use Rattle.ec_app.specs.Lending.{with_controller}
use Rattle.ec_applications.specs.Links.{controller_told}
use Rattle.ec_applications.proofs.links.tell_slave.Goals as goal

pub returns : goal.returns
returns c =
    ap (with_controller c.args.slave.now)
    (c.tell_controller.ensures ∙ ap (controller_told c.args.status) c.controller_mut.ensures.value)
