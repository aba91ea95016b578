use Rattle.std.proofs.Common.{ℕ, ◌+◌, ◌-◌, List, length, get_or, ap, ◌∙◌, arith}
use Rattle.ec_regs.proofs.Laws.{copied_run, get_or-run}
use Rattle.ec_areas.proofs.runs.copy_run.Goals as goal

pub returns : goal.returns
returns c =
    let old = c.args.into.now in
    let from = c.args.from in
    copied_run c.copy_from_slice.new.self old c.args.memory.now from c.copy_from_slice.ensures.len
    (λ k. omega (arith, c.type_inv.into k))
    (λ k inside.
    ap (λ (xs : List ℕ). get_or xs k 0) c.copy_from_slice.ensures.after
    ∙ get_or-run c.args.memory.now from (from + length old - from) k (omega arith))
