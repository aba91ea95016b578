use Rattle.std.proofs.Common.{◌||◌, ◌-◌, ℕ, Bool, sym, ap, ◌∙◌, arith}
use Rattle.ecat_judge.specs.declared.share.Missing.TheVariants.{Two}
use Rattle.ecat_judge.specs.Evidence.{fits}
use Rattle.ecat_judge.proofs.SumLemmas.{any_none, any_more, any_at}
use Rattle.ecat_judge.proofs.evidence.Evidence.fits_with.Goals as goal

pub loop-one-init : goal.loop-one-init
loop-one-init c = any_none (λ one. fits (Two one c.args.other) c.args.self.now)

pub returns-then-fits_two : goal.returns-then-fits_two
returns-then-fits_two c =
    sym (any_at (λ one. fits (Two one c.args.other) c.args.self.now) c.loop-one.one (c.args.other - 1)
    (omega (arith, c.loop-one-test.true, c.saturating_sub-one-end.ensures))
    (sym c.fits_two.ensures ∙ c.if-fits_two.true))

pub loop-one-preserved : goal.loop-one-preserved
loop-one-preserved c =
    let test : ℕ → Bool = λ one. fits (Two one c.args.other) c.args.self.now in
    any_more test c.loop-one.one
    ∙ ap (λ b. b || test c.loop-one.one) c.loop-one.invariant
    ∙ (sym c.fits_two.ensures ∙ c.if-fits_two.false)
