use Rattle.std.proofs.Common.{true, ◌++◌, sym, ap, ◌∙◌}
use Rattle.ecat_judge.specs.declared.share.Missing.TheVariants.{Inputs, Outputs}
use Rattle.ecat_judge.specs.Candidates.{one_if}
use Rattle.ecat_judge.proofs.CandidateLemmas.{half_none, half_more}
use Rattle.ecat_judge.proofs.candidates.each_half.Goals as goal

pub loop-place-init : goal.loop-place-init
loop-place-init c = c.new-all.ensures.items ∙ sym half_none

pub loop-place-preserved : goal.loop-place-preserved
loop-place-preserved c =
    let p = c.loop-place.place in
    c.in_ok-put_halves.ensures
    ∙ ap (λ xs. (xs ++ one_if true (Inputs p)) ++ one_if true (Outputs p)) c.loop-place.invariant
    ∙ sym (half_more p)
