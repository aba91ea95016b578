use Rattle.std.proofs.Common.{sym, subst, ◌∙◌, ap, List, map}
use Rattle.std.specs.List.{AllByRecursion}
use Rattle.ec_app.specs.State.{SlaveState}
use Rattle.ec_check.specs.Line.{controllers}
use Rattle.ec_esc.specs.State.{IsController}
use Rattle.ec_map.specs.Share.{expected_of}
use Rattle.ec_ring.specs.Ring.{RingState, line_of, stepped}
use Rattle.ec_master.specs.Unordered.{IsAccepted}
use Rattle.ec_master.proofs.BetweenLemmas.{stepped_accepted, stepped_expected}
use Rattle.ec_master.proofs.between.step_slaves.Goals as goal

pub returns-clause-again : goal.returns-clause-again
returns-clause-again c items accepted =
    let before : RingState = c.args.ring.now in
    let now : AllByRecursion IsController (line_of c.step_all.new.self) =
    subst (λ (ss : List SlaveState). AllByRecursion IsController (controllers ss)) c.slaves.ensures.slaves
    c.are_controllers.ensures in
    let are : AllByRecursion IsController (line_of (stepped before)) =
    subst (λ (r : RingState). AllByRecursion IsController (line_of r)) c.step_all.ensures now in
    subst (λ (r : RingState). IsAccepted r.slaves items) (sym c.step_all.ensures)
    (stepped_accepted before items accepted are)

pub returns-clause-still_expected : goal.returns-clause-still_expected
returns-clause-still_expected c items accepted are =
    ap (λ (r : RingState). map (expected_of (line_of r)) items) c.step_all.ensures
    ∙ stepped_expected c.args.ring.now items accepted are
