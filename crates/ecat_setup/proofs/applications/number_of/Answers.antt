use Rattle.std.proofs.Common.{eq-eqb}
use Rattle.ecat_setup.specs.Applications.{is_for}
use Rattle.ecat_setup.proofs.ApplicationLemmas.{found_next}
use Rattle.ecat_setup.proofs.applications.number_of.Goals as goal

pub returns-then-given-number-clause-some : goal.returns-then-given-number-clause-some
returns-then-given-number-clause-some c = (
  c.loop-number-test.true,
  found_next (is_for c.args.place) c.args.given.now c.loop-number.number c.index-given-number.result
      c.loop-number-test.true c.loop-number.invariant (eq-eqb _ _ c.if-given-number.true),
)
