use Rattle.std.proofs.Common.{◌+◌, ◌-◌, sym, ◌∙◌, arith}
use Rattle.std.proofs.lemmas.Bool.{not-true}
use Rattle.ec_areas.proofs.WholeLemmas.{is_writable-meets_locked}
use Rattle.ec_areas.proofs.reach.are_writable.Goals as goal

pub returns-clause-each : goal.returns-clause-each
returns-clause-each c = λ clear address starts ends.
    is_writable-meets_locked c.args.managers.now c.args.first (c.args.last - c.args.first + 1) address
    (sym (rw c.range_of.ensures at c.meets_locked.ensures) ∙ not-true c.meets_locked.result clear) starts (omega arith)
    (omega arith) (omega arith)
