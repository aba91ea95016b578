use Rattle.std.proofs.Common.{ℕ, ◌+◌, ◌-◌, length, get_or, ap, ◌∙◌, arith}
use Rattle.std.specs.Prelude.{bit_or}
use Rattle.ec_regs.proofs.Laws.{get_or-run}
use Rattle.ec_areas.proofs.RunLemmas.{merged_run}
use Rattle.ec_areas.proofs.runs.merge_run.Goals as goal

pub returns : goal.returns
returns c =
    let old = c.args.into.now in
    let from = c.args.from in
    merged_run c.merge.new.into old c.args.memory.now from (omega arith) (λ k. omega
    (arith, c.type_inv.into k))
    (λ k inside.
    c.merge.ensures k inside
    ∙ ap (λ (b : ℕ). bit_or (get_or old k 0) b) (get_or-run c.args.memory.now from
    (from + length old - from) k (omega arith)))
