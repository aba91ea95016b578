use Rattle.std.proofs.Common.{sym, ap, ◌∙◌}
use Rattle.ec_areas.specs.Records.{fmmu_at}
use Rattle.ec_esc.specs.State.{ControllerState}
use Rattle.ec_check.specs.Line.{fmmu_of}
use Rattle.ec_check.proofs.Laws.{controller_of-controllers_by}
use Rattle.ec_map.proofs.line.fmmu_of.Goals as goal

pub returns : goal.returns
unfolding fmmu_of
returns g c =
    let is = controller_of-controllers_by g.S.Mapped.controller c.args.line.now c.args.slave
    c.index-line-slave.result c.requires.slave c.index-line-slave.is in
    c.fmmu.ensures ∙ ap (λ (k : ControllerState). fmmu_at k.memory c.args.number) (sym is)
