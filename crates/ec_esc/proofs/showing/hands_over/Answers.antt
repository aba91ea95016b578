use Rattle.std.proofs.Common.{sym, ◌∙◌}
use Rattle.ec_areas.proofs.Laws.{active_place}
use Rattle.ec_esc.proofs.showing.hands_over.Goals as goal

pub returns-then-not-is_active-2-clause-from : goal.returns-then-not-is_active-2-clause-from
returns-then-not-is_active-2-clause-from c = λ _.
    (active_place c.args.after.now (sym c.is_active.ensures.value ∙ c.if-not-is_active.false)).0

pub returns-then-not-is_active-2-clause-to : goal.returns-then-not-is_active-2-clause-to
returns-then-not-is_active-2-clause-to c = λ _.
    (active_place c.args.after.now (sym c.is_active.ensures.value ∙ c.if-not-is_active.false)).1

pub returns-then-is_last_written-clause-from : goal.returns-then-is_last_written-clause-from
returns-then-is_last_written-clause-from c = λ _.
    (active_place c.args.after.now (sym c.is_active.ensures.value ∙ c.if-not-is_active.false)).0

pub returns-then-is_last_written-clause-to : goal.returns-then-is_last_written-clause-to
returns-then-is_last_written-clause-to c = λ _.
    (active_place c.args.after.now (sym c.is_active.ensures.value ∙ c.if-not-is_active.false)).1
