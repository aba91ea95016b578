use Rattle.std.proofs.Common.{sym}
use Rattle.ec_areas.proofs.AreasMetLemmas.{emptied_before}
use Rattle.ec_areas.proofs.ranges.emptied_by.Goals as goal

pub returns-then-ends_before_areas : goal.returns-then-ends_before_areas
returns-then-ends_before_areas c =
    sym (emptied_before c.args.managers.now c.args.range.first c.args.range.count
    (c.ends_before_areas.ensures c.if-ends_before_areas.true))
