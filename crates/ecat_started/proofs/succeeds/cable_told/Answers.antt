use Rattle.ecat_started.proofs.SucceedLemmas.{told_right}
use Rattle.ecat_started.proofs.succeeds.cable_told.Goals as goal

pub returns : goal.returns
returns c =
    told_right
    (record {
      a = c.trips_are_heard.ensures.a;
      b = c.trips_are_heard.ensures.b;
      so = c.trips_are_heard.ensures.so;
    })
