use Rattle.std.proofs.Common.{[], ◌∷◌}
use Rattle.ec_check.specs.Fit.{areas_meet_rule}
use Rattle.ec_check.specs.Line.{controllers_by}
use Rattle.ec_check.specs.Search.{HasNoneBelow}
use Rattle.ec_check.proofs.areas.areas_met_by.Given as goal

abbrev pub invariant-loop-later_number : goal.invariant-loop-later_number
invariant-loop-later_number g l =
    HasNoneBelow (areas_meet_rule ∷ l.slave ∷ l.number ∷ [])
    (controllers_by g.S.Mapped.controller l.line) l.later_number
