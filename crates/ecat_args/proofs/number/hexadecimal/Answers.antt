use Rattle.std.proofs.Common.{ℕ, Option, IfSome, ◌∙◌, ◌<◌, ◌^◌, length, sym, subst}
use Rattle.ecat_args.proofs.NumberLemmas.{numeral-small, within-short}
use Rattle.ecat_args.proofs.number.hexadecimal.Goals as goal

pub returns-clause-value : goal.returns-clause-value
returns-clause-value c = c.numeral.ensures ∙ within-short c.args.digits.now c.requires

pub returns-clause-small : goal.returns-clause-small
returns-clause-small c =
    subst (λ (o : Option ℕ). IfSome o (λ n. n < 16 ^ length c.args.digits.now))
    (sym (c.numeral.ensures ∙ within-short c.args.digits.now c.requires)) (numeral-small 16 c.args.digits.now)
