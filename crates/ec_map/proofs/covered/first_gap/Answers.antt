use Rattle.std.proofs.Common.{[], below_more, arith}
use Rattle.ec_check.specs.Line.{controllers_by}
use Rattle.ec_check.proofs.Laws.{length-controllers_by}
use Rattle.ec_map.specs.Item.{items_by}
use Rattle.ec_map.specs.Covered.{IsGap, gap_numbers}
use Rattle.ec_map.proofs.CoveredLemmas.{gap_slave}
use Rattle.ec_map.proofs.FirstLemmas.{IsFirstOf-shorter, HasNone-all}
use Rattle.ec_map.proofs.covered.first_gap.Goals as goal

pub loop-slave-preserved : goal.loop-slave-preserved
loop-slave-preserved g c = below_more _ _ c.loop-slave.invariant c.in-None.ensures

pub returns-in-Some : goal.returns-in-Some
returns-in-Some g c =
    let found = IsFirstOf-shorter gap_numbers (IsGap (controllers_by g.S.Mapped.controller c.args.line.now) (items_by g.I.Asking.item c.args.items.now)) []
    c.loop-slave.slave c.in-Some.gap c.loop-slave.invariant c.in-Some.ensures in
    record { gap = found.is; first = λ other is. found.first other is tt; covered = tt }

pub returns : goal.returns
returns g c =
    let line = controllers_by g.S.Mapped.controller c.args.line.now in
    let none = HasNone-all gap_numbers (IsGap line (items_by g.I.Asking.item c.args.items.now)) [] c.loop-slave.slave
    c.loop-slave.invariant
    (gap_slave line (items_by g.I.Asking.item c.args.items.now) c.loop-slave.slave (omega (arith, length-controllers_by g.S.Mapped.controller c.args.line.now))) in
    record { gap = tt; first = tt; covered = λ gap is. none.none gap is tt }
