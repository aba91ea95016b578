use Rattle.std.proofs.Common.{below_more, sym, ap, ◌∙◌, arith}
use Rattle.ec_regs.specs.declared.registers.TheConstants.{STATION_ADDRESS}
use Rattle.ec_esc.specs.State.{ControllerState}
use Rattle.ec_esc.specs.State.{word_at}
use Rattle.ec_check.specs.Line.{station_of}
use Rattle.ec_check.proofs.Laws.{controller_of-controllers_by, length-controllers_by}
use Rattle.ec_map.proofs.place.first_of_station.Goals as goal
use Rattle.ec_map.proofs.place.first_of_station.Goals.{Then-station, Else-station}

pub loop-slave-preserved : goal.loop-slave-preserved
unfolding station_of
loop-slave-preserved g c =
    let is = controller_of-controllers_by g.S.Mapped.controller c.args.line.now c.loop-slave.slave c.index-line-slave.result
    (omega arith) c.index-line-slave.is in
    below_more _ _ c.loop-slave.invariant
    (λ same. c.if-station.false
    (c.station.ensures.value ∙ ap (λ (k : ControllerState). word_at k.memory STATION_ADDRESS)
    (sym is) ∙ same))

pub returns-then-station : goal.returns-then-station
unfolding station_of
returns-then-station g c =
    let is = controller_of-controllers_by g.S.Mapped.controller c.args.line.now c.loop-slave.slave c.index-line-slave.result
    (omega arith) c.index-line-slave.is in
    record {
      there = omega (arith, length-controllers_by g.S.Mapped.controller c.args.line.now);
      same = sym
          (c.station.ensures.value ∙ ap (λ (k : ControllerState). word_at k.memory STATION_ADDRESS)
          (sym is)) ∙ c.if-station.true;
      first = c.loop-slave.invariant;
    }

pub returns : goal.returns
returns g c = λ k there. c.loop-slave.invariant k (omega (arith, length-controllers_by g.S.Mapped.controller c.args.line.now))
