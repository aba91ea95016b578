use Rattle.std.proofs.Common.{ap, Ok}
use Rattle.ecat_course.proofs.course.Course.of.Goals as goal

pub invariant_of-result : goal.invariant_of-result
invariant_of-result g c = record {
  each_expected = c.of-expected.ensures.count;
  stands = ∣ record {
    slaves = c.slaves.result.now;
    accepted = c.in_ok-refuse_work.ensures.accepted (ap (λ b. Ok b) c.if-branch-2.false);
    expects = rw (c.slaves.ensures.slaves, ← c.slaves-2.ensures.slaves) c.of-expected.ensures.each;
    told = rw (c.slaves.ensures.slaves, ← c.slaves-3.ensures.slaves) c.in_ok-line.ensures;
  } ∣₁;
}
