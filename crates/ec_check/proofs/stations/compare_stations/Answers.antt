use Rattle.std.proofs.Common.{sym, ◌∙◌, arith}
use Rattle.ec_check.specs.Line.{controllers_by}
use Rattle.ec_check.specs.declared.fault.MapFault.TheVariants.{TwinStation}
use Rattle.ec_check.proofs.LineLemmas.{length-controllers_by}
use Rattle.ec_check.proofs.SearchLemmas.{IsFirstOf-itself}
use Rattle.ec_check.proofs.StationLemmas.{HasNone-twins}
use Rattle.ec_check.proofs.stations.compare_stations.Goals as goal

pub returns-then-station_of : goal.returns-then-station_of
returns-then-station_of g c =
    let line = controllers_by g.S.Mapped.controller c.args.line.now in
    IsFirstOf-itself line (TwinStation c.args.slave c.args.later_slave) (record {
      order = c.requires.order;
      there = omega (arith, length-controllers_by g.S.Mapped.controller c.args.line.now);
      same = sym c.station_of.ensures ∙ c.if-station_of.true ∙ c.station_of-2.ensures;
    })

pub returns : goal.returns
returns g c =
    HasNone-twins (controllers_by g.S.Mapped.controller c.args.line.now) c.args.slave c.args.later_slave
    (λ twins. c.if-station_of.false (c.station_of.ensures ∙ twins.same ∙ sym c.station_of-2.ensures))
