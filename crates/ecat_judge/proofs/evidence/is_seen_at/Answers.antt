use Rattle.std.proofs.Common.{◌&&◌, sym, ap, ◌∙◌}
use Rattle.ecat_judge.specs.Share.{has_inputs_of}
use Rattle.ecat_judge.specs.Evidence.{is_seen_at}
use Rattle.ecat_judge.proofs.evidence.is_seen_at.Goals as goal

pub returns-then-passed-place : goal.returns-then-passed-place
unfolding is_seen_at
returns-then-passed-place c =
    c.has_inputs_of.ensures
    ∙ sym (ap (λ b. b && has_inputs_of c.args.missing c.args.place) c.if-passed-place.true)

pub returns-else-passed-place : goal.returns-else-passed-place
unfolding is_seen_at
returns-else-passed-place c =
    c.if-passed-place.false
    ∙ sym (ap (λ b. b && has_inputs_of c.args.missing c.args.place) c.if-passed-place.false)
