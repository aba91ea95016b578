use Rattle.std.proofs.Common.{[], ◌∷◌, below_more, arith}
use Rattle.ec_check.specs.Line.{controllers_by}
use Rattle.ec_map.specs.Item.{items_by}
use Rattle.ec_map.specs.Covered.{IsGap, gap_numbers}
use Rattle.ec_map.proofs.CoveredLemmas.{gap_fmmu}
use Rattle.ec_map.proofs.FirstLemmas.{IsFirstOf-shorter, HasNone-all}
use Rattle.ec_map.proofs.covered.gap_of_slave.Goals as goal

pub loop-fmmu-preserved : goal.loop-fmmu-preserved
loop-fmmu-preserved g c = below_more _ _ c.loop-fmmu.invariant c.in-None.ensures

pub returns-in-Some : goal.returns-in-Some
returns-in-Some g c =
    IsFirstOf-shorter gap_numbers (IsGap (controllers_by g.S.Mapped.controller c.args.line.now) (items_by g.I.Asking.item c.args.items.now)) (c.args.slave ∷ [])
    c.loop-fmmu.fmmu c.in-Some.gap c.loop-fmmu.invariant c.in-Some.ensures

pub returns : goal.returns
returns g c =
    let line = controllers_by g.S.Mapped.controller c.args.line.now in
    HasNone-all gap_numbers (IsGap line (items_by g.I.Asking.item c.args.items.now)) (c.args.slave ∷ []) c.loop-fmmu.fmmu
    c.loop-fmmu.invariant (gap_fmmu line (items_by g.I.Asking.item c.args.items.now) c.args.slave c.loop-fmmu.fmmu (omega arith))
