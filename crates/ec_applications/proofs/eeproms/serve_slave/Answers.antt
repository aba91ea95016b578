use Rattle.std.proofs.Common.{◌∙◌, ap}
use Rattle.ec_app.specs.Lending.{with_controller}
use Rattle.ec_applications.specs.Repeats.{repeated}
use Rattle.ec_esc.specs.State.{ControllerState}
use Rattle.ec_sii.specs.Served.{served}
use Rattle.ec_applications.proofs.eeproms.serve_slave.Goals as goal

pub returns-clause-slave : goal.returns-clause-slave
returns-clause-slave c =
    ap (with_controller c.args.slave.now)
    (c.serve_controller.ensures.controller
    ∙ ap (λ (d : ControllerState). repeated (served c.args.eeprom.now d)) c.controller_mut.ensures.value)
