use Rattle.std.proofs.Common.{sym, ap, ◌∙◌}
use Rattle.ec_regs.specs.declared.registers.TheConstants.{STATION_ADDRESS}
use Rattle.ec_esc.specs.State.{ControllerState}
use Rattle.ec_esc.specs.State.{word_at}
use Rattle.ec_check.specs.Line.{station_of}
use Rattle.ec_check.proofs.Laws.{controller_of-controllers_by}
use Rattle.ec_map.proofs.line.station_of.Goals as goal

pub returns : goal.returns
unfolding station_of
returns g c =
    let is = controller_of-controllers_by g.S.Mapped.controller c.args.line.now c.args.slave
    c.index-line-slave.result c.requires c.index-line-slave.is in
    c.station.ensures.value ∙ ap (λ (k : ControllerState). word_at k.memory STATION_ADDRESS) (sym is)
