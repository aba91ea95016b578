use Rattle.std.proofs.Common.{[], ◌∷◌, below_more, arith}
use Rattle.ec_check.specs.Line.{controllers_by}
use Rattle.ec_map.specs.Item.{items_by}
use Rattle.ec_map.specs.NotShown.{IsNotShown, not_shown_numbers}
use Rattle.ec_map.proofs.NotShownLemmas.{not_shown_number}
use Rattle.ec_map.proofs.FirstLemmas.{IsFirstOf-shorter, HasNone-all}
use Rattle.ec_map.proofs.not_shown.not_shown_of_slave.Goals as goal

pub loop-number-preserved : goal.loop-number-preserved
loop-number-preserved g c = below_more _ _ c.loop-number.invariant c.in-None.ensures

pub returns-in-Some : goal.returns-in-Some
returns-in-Some g c =
    IsFirstOf-shorter not_shown_numbers (IsNotShown (controllers_by g.S.Mapped.controller c.args.line.now) (items_by g.I.Asking.item c.args.items.now))
    (c.args.slave ∷ []) c.loop-number.number c.in-Some.found c.loop-number.invariant c.in-Some.ensures

pub returns : goal.returns
returns g c =
    let line = controllers_by g.S.Mapped.controller c.args.line.now in
    HasNone-all not_shown_numbers (IsNotShown line (items_by g.I.Asking.item c.args.items.now)) (c.args.slave ∷ []) c.loop-number.number
    c.loop-number.invariant
    (not_shown_number line (items_by g.I.Asking.item c.args.items.now) c.args.slave c.loop-number.number (omega arith))
