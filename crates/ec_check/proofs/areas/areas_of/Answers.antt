use Rattle.std.proofs.Common.{[], ◌∷◌, below_more, arith}
use Rattle.std.proofs.lemmas.Result.{err_from_is_err_and}
use Rattle.ec_check.specs.Fit.{areas_meet_rule}
use Rattle.ec_check.specs.Line.{controllers_by}
use Rattle.ec_check.proofs.SearchLemmas.{IsFirstOf-shorter, HasNone-all}
use Rattle.ec_check.proofs.AreaLemmas.{meeting_of_go_on}
use Rattle.ec_check.proofs.areas.areas_of.Goals as goal

pub loop-number-preserved : goal.loop-number-preserved
loop-number-preserved g c = below_more _ _ c.loop-number.invariant c.in_ok-areas_met_by.ensures

pub returns-in_err-areas_met_by : goal.returns-in_err-areas_met_by
returns-in_err-areas_met_by g c =
    let p = err_from_is_err_and c.from_residual.result c.from_residual.ensures.1 in
    rw (p.1, p.2)
    (IsFirstOf-shorter (areas_meet_rule ∷ c.args.slave ∷ [])
    (controllers_by g.S.Mapped.controller c.args.line.now) c.loop-number.number _
    c.loop-number.invariant c.in_err-areas_met_by.ensures)

pub returns : goal.returns
returns g c =
    let line = controllers_by g.S.Mapped.controller c.args.line.now in
    HasNone-all (areas_meet_rule ∷ c.args.slave ∷ []) line c.loop-number.number c.loop-number.invariant
    (meeting_of_go_on line c.args.slave c.loop-number.number (omega arith))
