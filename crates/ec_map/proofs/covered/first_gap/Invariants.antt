use Rattle.std.proofs.Common.{[]}
use Rattle.ec_check.specs.Line.{controllers_by}
use Rattle.ec_map.specs.Item.{items_by}
use Rattle.ec_map.specs.Covered.{IsGap, gap_numbers}
use Rattle.ec_map.specs.First.{HasNoneBelow}
use Rattle.ec_map.proofs.covered.first_gap.Given as goal

abbrev pub invariant-loop-slave : goal.invariant-loop-slave
invariant-loop-slave g l = HasNoneBelow gap_numbers (IsGap (controllers_by g.S.Mapped.controller l.line) (items_by g.I.Asking.item l.items)) [] l.slave
