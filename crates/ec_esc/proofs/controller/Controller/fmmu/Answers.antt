use Rattle.std.proofs.Common.{List, get_or, ◌∙◌, ap}
use Rattle.ec_regs.specs.declared.fmmu.Fmmu.{Fmmu}
use Rattle.ec_areas.specs.Records.{fmmu_at}
use Rattle.ec_areas.proofs.Laws.{get_or-fmmus_of}
use Rattle.ec_esc.specs.State.{ControllerState}
use Rattle.ec_esc.proofs.controller.Controller.fmmu.Goals as goal

pub returns : goal.returns
returns c =
    c.fmmu.ensures
    ∙ ap (λ (fmmus : List Fmmu). get_or fmmus c.args.i c.index-fmmus-i.result) c.fmmus.ensures
    ∙ get_or-fmmus_of c.self.inside.memory c.index-fmmus-i.result c.args.i c.requires
    ∙ ap (λ (s : ControllerState). fmmu_at s.memory c.args.i) c.self.view_is
