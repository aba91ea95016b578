use Rattle.std.proofs.Common.{◌||◌, sym, ap, ◌∙◌, get_or, false}
use Rattle.ecat_judge.proofs.TwoLemmas.{two_seen}
use Rattle.ecat_judge.proofs.evidence.two_seen.Goals as goal

pub returns-then-is_seen : goal.returns-then-is_seen
returns-then-is_seen c =
    let passed = c.args.passed.now in
    c.if-is_seen.true
    ∙ sym (two_seen passed c.args.one c.args.other
    ∙ ap (λ b. b || get_or passed c.args.other false) (sym c.is_seen.ensures ∙ c.if-is_seen.true))

pub returns-else-is_seen : goal.returns-else-is_seen
returns-else-is_seen c =
    let passed = c.args.passed.now in
    c.is_seen-else-is_seen.ensures
    ∙ sym (two_seen passed c.args.one c.args.other
    ∙ ap (λ b. b || get_or passed c.args.other false) (sym c.is_seen.ensures ∙ c.if-is_seen.false))
