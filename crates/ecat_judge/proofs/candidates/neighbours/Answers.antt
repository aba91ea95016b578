use Rattle.std.proofs.Common.{◌+◌, ◌++◌, sym, ap, ◌∙◌}
use Rattle.std.specs.Prelude.{nat_lt}
use Rattle.ecat_judge.specs.declared.share.Missing.TheVariants.{Slaves}
use Rattle.ecat_judge.specs.Candidates.{one_if, runs_from}
use Rattle.ecat_judge.proofs.CandidateLemmas.{neighbour_none, neighbour_more}
use Rattle.ecat_judge.proofs.candidates.neighbours.Goals as goal

pub loop-from-init : goal.loop-from-init
loop-from-init c = c.new-all.ensures.items ∙ sym (neighbour_none c.args.any c.args.count)

pub loop-from-preserved : goal.loop-from-preserved
loop-from-preserved c =
    let any = c.args.any in
    let count = c.args.count in
    let from = c.loop-from.from in
    c.in_ok-put_runs.ensures
    ∙ ap (λ xs. (xs ++ runs_from any from count) ++ one_if (nat_lt (from + 1) count) (Slaves from count))
    c.loop-from.invariant
    ∙ sym (neighbour_more any count from)
