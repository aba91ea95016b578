use Rattle.std.proofs.Common.{ℕ, List, ◌∙◌, ap}
use Rattle.std.specs.Int.{w16, to_le_bytes}
use Rattle.ec_regs.specs.declared.registers.TheConstants.{STATION_ALIAS}
use Rattle.ec_esc.specs.Application.{with_registers}
use Rattle.ec_esc.specs.State.{ControllerState, with_run}
use Rattle.ec_esc.proofs.controller.Controller.set_alias.Goals as goal

pub returns : goal.returns
returns c =
    ap (λ (m : List ℕ). record {
      memory = m;
      shown = c.self.inside.shown.items;
      written = c.self.inside.written;
    }) (c.load_before.ensures.value
    ∙ ap (λ (spelt : List ℕ). with_run c.self.inside.memory STATION_ALIAS spelt) c.to_le_bytes.ensures)
    ∙ ap (λ (s : ControllerState). with_registers s STATION_ALIAS (to_le_bytes w16 c.args.alias)) c.self.view_is
