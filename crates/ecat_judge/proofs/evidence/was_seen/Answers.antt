use Rattle.std.proofs.Common.{◌||◌, length, sym, ap, ◌∙◌}
use Rattle.ecat_judge.specs.Evidence.{is_seen_at}
use Rattle.ecat_judge.proofs.SumLemmas.{any_none, any_more, any_at}
use Rattle.ecat_judge.proofs.evidence.was_seen.Goals as goal

pub loop-place-init : goal.loop-place-init
loop-place-init c = any_none (is_seen_at c.args.missing c.args.passed.now)

pub returns-then-is_seen_at : goal.returns-then-is_seen_at
returns-then-is_seen_at c =
    sym (any_at (is_seen_at c.args.missing c.args.passed.now) c.loop-place.place (length c.args.passed.now)
    c.loop-place-test.true (sym c.is_seen_at.ensures ∙ c.if-is_seen_at.true))

pub loop-place-preserved : goal.loop-place-preserved
loop-place-preserved c =
    let test = is_seen_at c.args.missing c.args.passed.now in
    any_more test c.loop-place.place
    ∙ ap (λ b. b || test c.loop-place.place) c.loop-place.invariant
    ∙ (sym c.is_seen_at.ensures ∙ c.if-is_seen_at.false)
