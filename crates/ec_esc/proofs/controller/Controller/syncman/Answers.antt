use Rattle.std.proofs.Common.{List, get_or, ◌∙◌, ap}
use Rattle.ec_regs.specs.declared.sync_man.SyncMan.{SyncMan}
use Rattle.ec_areas.specs.Records.{sync_manager_at}
use Rattle.ec_areas.proofs.Laws.{get_or-sync_managers_of}
use Rattle.ec_esc.specs.State.{ControllerState}
use Rattle.ec_esc.proofs.controller.Controller.syncman.Goals as goal

pub returns : goal.returns
returns c =
    c.manager.ensures
    ∙ ap (λ (managers : List SyncMan). get_or managers c.args.i c.index-managers-i.result)
    c.managers.ensures.value
    ∙ get_or-sync_managers_of c.self.inside.memory c.index-managers-i.result c.args.i c.requires
    ∙ ap (λ (s : ControllerState). sync_manager_at s.memory c.args.i) c.self.view_is
