use Rattle.std.proofs.Common.{sym}
use Rattle.ec_areas.proofs.AreasMetLemmas.{locked_registers}
use Rattle.ec_areas.proofs.ranges.meets_locked.Goals as goal

pub returns-then-ends_before_areas : goal.returns-then-ends_before_areas
returns-then-ends_before_areas c =
    sym (locked_registers c.args.managers.now c.args.range.first c.args.range.count
    (c.ends_before_areas.ensures c.if-ends_before_areas.true))
