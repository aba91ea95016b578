use Rattle.std.proofs.Common.{sym}
use Rattle.ec_areas.proofs.AreasMetLemmas.{filled_before}
use Rattle.ec_areas.proofs.ranges.filled_by.Goals as goal

pub returns-then-ends_before_areas : goal.returns-then-ends_before_areas
returns-then-ends_before_areas c =
    sym (filled_before c.args.managers.now c.args.range.first c.args.range.count
    (c.ends_before_areas.ensures c.if-ends_before_areas.true))
