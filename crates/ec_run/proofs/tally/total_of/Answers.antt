use Rattle.std.proofs.Common.{◌+◌, ◌%◌, ◌∙◌, ap, sym, ℕ}
use Rattle.ec_run.specs.Tally.{moved, total_of}
use Rattle.ec_run.proofs.TallyLemmas.{total-more, total-none}
use Rattle.ec_run.proofs.tally.total_of.Goals as goal

pub loop-k-init : goal.loop-k-init
loop-k-init c = sym (total-none (moved c.args.sent.now c.args.copy.now))

pub loop-k-preserved : goal.loop-k-preserved
loop-k-preserved c =
    let number : ℕ → ℕ = moved c.args.sent.now c.args.copy.now in
    ap (λ (n : ℕ). (n + c.moved-total.result) % 65536) c.loop-k.invariant
    ∙ ap (λ (n : ℕ). (total_of number c.loop-k.k + n) % 65536) c.moved-total.ensures
    ∙ sym (total-more number c.loop-k.k)
