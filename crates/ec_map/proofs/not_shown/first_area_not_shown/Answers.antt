use Rattle.std.proofs.Common.{[], below_more, arith}
use Rattle.ec_check.specs.Line.{controllers_by}
use Rattle.ec_check.proofs.Laws.{length-controllers_by}
use Rattle.ec_map.specs.Item.{items_by}
use Rattle.ec_map.specs.NotShown.{IsNotShown, not_shown_numbers}
use Rattle.ec_map.proofs.NotShownLemmas.{not_shown_slave}
use Rattle.ec_map.proofs.FirstLemmas.{IsFirstOf-shorter, HasNone-all}
use Rattle.ec_map.proofs.not_shown.first_area_not_shown.Goals as goal

pub loop-slave-preserved : goal.loop-slave-preserved
loop-slave-preserved g c = below_more _ _ c.loop-slave.invariant c.in-None.ensures

pub returns-in-Some : goal.returns-in-Some
returns-in-Some g c =
    let found = IsFirstOf-shorter not_shown_numbers (IsNotShown (controllers_by g.S.Mapped.controller c.args.line.now) (items_by g.I.Asking.item c.args.items.now)) []
    c.loop-slave.slave c.in-Some.found c.loop-slave.invariant c.in-Some.ensures in
    record { not_shown = found.is; first = λ other is. found.first other is tt; shown = tt }

pub returns : goal.returns
returns g c =
    let line = controllers_by g.S.Mapped.controller c.args.line.now in
    let none = HasNone-all not_shown_numbers (IsNotShown line (items_by g.I.Asking.item c.args.items.now)) [] c.loop-slave.slave
    c.loop-slave.invariant
    (not_shown_slave line (items_by g.I.Asking.item c.args.items.now) c.loop-slave.slave
    (omega (arith, length-controllers_by g.S.Mapped.controller c.args.line.now))) in
    record { not_shown = tt; first = tt; shown = λ found is. none.none found is tt }
