use Rattle.std.proofs.Common.{◌+◌, ◌-◌, sym, ◌∙◌, arith}
use Rattle.std.proofs.lemmas.Bool.{not-true}
use Rattle.ec_areas.proofs.WholeLemmas.{is_readable-meets_hidden}
use Rattle.ec_areas.proofs.reach.are_readable.Goals as goal

pub returns-then-last-from-clause-each : goal.returns-then-last-from-clause-each
returns-then-last-from-clause-each c = λ clear address starts ends.
    is_readable-meets_hidden c.args.managers.now c.args.first (c.args.last - c.args.first + 1) address
    (sym (rw c.range_of.ensures at c.meets_hidden.ensures) ∙ not-true c.meets_hidden.result clear) starts (omega arith) (omega arith)
