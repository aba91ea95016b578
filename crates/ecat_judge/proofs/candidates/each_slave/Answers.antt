use Rattle.std.proofs.Common.{true, ◌+◌, ◌++◌, sym, ap, ◌∙◌}
use Rattle.ecat_judge.specs.declared.share.Missing.TheVariants.{Slaves}
use Rattle.ecat_judge.specs.Candidates.{one_if}
use Rattle.ecat_judge.proofs.CandidateLemmas.{slave_none, slave_more}
use Rattle.ecat_judge.proofs.candidates.each_slave.Goals as goal

pub loop-place-init : goal.loop-place-init
loop-place-init c = c.new-all.ensures.items ∙ sym slave_none

pub loop-place-preserved : goal.loop-place-preserved
loop-place-preserved c =
    let p = c.loop-place.place in
    c.in_ok-put_if.ensures
    ∙ ap (λ xs. xs ++ one_if true (Slaves p (p + 1))) c.loop-place.invariant
    ∙ sym (slave_more p)
