use Rattle.std.proofs.Common.{ℕ, List, ◌∙◌, ap}
use Rattle.ec_regs.specs.Information.{information_bytes}
use Rattle.ec_regs.specs.declared.registers.TheConstants.{CONTROLLER_TYPE}
use Rattle.ec_esc.specs.Application.{with_registers}
use Rattle.ec_esc.specs.State.{ControllerState, with_run}
use Rattle.ec_esc.proofs.controller.Controller.set_information.Goals as goal

pub returns : goal.returns
returns c =
    ap (λ (m : List ℕ). record {
      memory = m;
      shown = c.self.inside.shown.items;
      written = c.self.inside.written;
    }) (c.load_before.ensures.value
    ∙ ap (λ (spelt : List ℕ). with_run c.self.inside.memory CONTROLLER_TYPE spelt) c.bytes.ensures)
    ∙ ap (λ (s : ControllerState). with_registers s CONTROLLER_TYPE (information_bytes c.args.information.now))
    c.self.view_is
