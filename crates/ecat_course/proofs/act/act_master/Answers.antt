use Rattle.std.proofs.Common.{refl}
use Rattle.ecat_course.proofs.act.act_master.Goals as goal

pub returns-clause-good : goal.returns-clause-good
returns-clause-good g c well = record {
  stands = c.args.course.stands;
  planned = _;
  is_planned = record {
    line = c.as_slice-3.ensures.value;
    expected = c.counters.ensures;
    states = refl;
    identities = c.as_slice.ensures.value;
    names = c.as_slice-2.ensures.value;
    rest = refl;
  };
  run = c.master.ensures.good well;
}

pub returns-clause-ended : goal.returns-clause-ended
returns-clause-ended g c = record {
  stands = c.args.course.stands;
  planned = _;
  is_planned = record {
    line = c.as_slice-3.ensures.value;
    expected = c.counters.ensures;
    states = refl;
    identities = c.as_slice.ensures.value;
    names = c.as_slice-2.ensures.value;
    rest = refl;
  };
  run = c.master.ensures.ended;
}
