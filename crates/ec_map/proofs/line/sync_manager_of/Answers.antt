use Rattle.std.proofs.Common.{sym, ap, ◌∙◌}
use Rattle.ec_areas.specs.Records.{sync_manager_at}
use Rattle.ec_esc.specs.State.{ControllerState}
use Rattle.ec_check.specs.Line.{sync_manager_of}
use Rattle.ec_check.proofs.Laws.{controller_of-controllers_by}
use Rattle.ec_map.proofs.line.sync_manager_of.Goals as goal

pub returns : goal.returns
unfolding sync_manager_of
returns g c =
    let is = controller_of-controllers_by g.S.Mapped.controller c.args.line.now c.args.slave
    c.index-line-slave.result c.requires.slave c.index-line-slave.is in
    c.sync_manager.ensures ∙ ap (λ (k : ControllerState). sync_manager_at k.memory c.args.number) (sym is)
