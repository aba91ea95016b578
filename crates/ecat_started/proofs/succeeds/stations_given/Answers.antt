use Rattle.ecat_started.proofs.SucceedLemmas.{all_given}
use Rattle.ecat_started.proofs.succeeds.stations_given.Goals as goal

pub returns : goal.returns
returns c =
    all_given
    (record {
      a = c.trips_are_heard.ensures.a;
      b = c.trips_are_heard.ensures.b;
      so = c.trips_are_heard.ensures.so;
    })
