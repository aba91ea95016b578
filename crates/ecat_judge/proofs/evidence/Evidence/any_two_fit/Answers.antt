use Rattle.std.proofs.Common.{◌||◌, sym, ap, ◌∙◌}
use Rattle.ecat_judge.specs.Answer.{fits_with}
use Rattle.ecat_judge.proofs.SumLemmas.{any_none, any_more, any_at}
use Rattle.ecat_judge.proofs.evidence.Evidence.any_two_fit.Goals as goal

pub loop-other-init : goal.loop-other-init
loop-other-init c = any_none (fits_with c.args.self.now)

pub returns-then-fits_with : goal.returns-then-fits_with
returns-then-fits_with c =
    sym (any_at (fits_with c.args.self.now) c.loop-other.other c.args.slaves c.loop-other-test.true
    (sym c.fits_with.ensures ∙ c.if-fits_with.true))

pub loop-other-preserved : goal.loop-other-preserved
loop-other-preserved c =
    let test = fits_with c.args.self.now in
    any_more test c.loop-other.other
    ∙ ap (λ b. b || test c.loop-other.other) c.loop-other.invariant
    ∙ (sym c.fits_with.ensures ∙ c.if-fits_with.false)
