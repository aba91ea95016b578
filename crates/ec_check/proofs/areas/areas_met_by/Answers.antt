use Rattle.std.proofs.Common.{[], ◌∷◌, below_more, arith, ◌<◌}
use Rattle.std.proofs.lemmas.Result.{err_from_is_err_and}
use Rattle.ec_check.specs.Fit.{areas_meet_rule}
use Rattle.ec_check.specs.Line.{controllers_by}
use Rattle.ec_check.proofs.SearchLemmas.{IsFirstOf-shorter, HasNone-all}
use Rattle.ec_check.proofs.AreaLemmas.{meeting_with_go_on, HasNone-meeting}
use Rattle.ec_check.proofs.areas.areas_met_by.Goals as goal

pub loop-later_number-init : goal.loop-later_number-init
loop-later_number-init g c = λ n below.
    HasNone-meeting (controllers_by g.S.Mapped.controller c.args.line.now) c.args.slave c.args.number n
    (λ address meeting. let order : c.args.number < n = meeting.order in absurd (omega arith))

pub loop-later_number-preserved : goal.loop-later_number-preserved
loop-later_number-preserved g c = below_more _ _ c.loop-later_number.invariant c.in_ok-compare_areas.ensures

pub returns-in_err-compare_areas : goal.returns-in_err-compare_areas
returns-in_err-compare_areas g c =
    let p = err_from_is_err_and c.from_residual.result c.from_residual.ensures.1 in
    rw (p.1, p.2)
    (IsFirstOf-shorter (areas_meet_rule ∷ c.args.slave ∷ c.args.number ∷ [])
    (controllers_by g.S.Mapped.controller c.args.line.now) c.loop-later_number.later_number _
    c.loop-later_number.invariant c.in_err-compare_areas.ensures)

pub returns : goal.returns
returns g c =
    let line = controllers_by g.S.Mapped.controller c.args.line.now in
    HasNone-all
    (areas_meet_rule ∷ c.args.slave ∷ c.args.number ∷ []) line c.loop-later_number.later_number
    c.loop-later_number.invariant
    (meeting_with_go_on line c.args.slave c.args.number c.loop-later_number.later_number (omega arith))
