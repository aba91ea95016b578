use Rattle.ecat_master.proofs.FoundLemmas.{AreHeard}
use Rattle.ecat_master.proofs.OverRingLemmas.{all_of_ring, found_line}
use Rattle.ecat_master.proofs.over_ring.found_line.Goals as goal

pub returns-clause-slaves : goal.returns-clause-slaves
returns-clause-slaves c line identities cable before later ring started =
    let laws : AreHeard = record {
      a = c.trips_are_heard.ensures.a;
      b = c.trips_are_heard.ensures.b;
      so = c.trips_are_heard.ensures.so;
    } in
    (found_line laws line identities cable before later ring started).slaves

pub returns-clause-cable : goal.returns-clause-cable
returns-clause-cable c line identities cable before later ring started =
    let laws : AreHeard = record {
      a = c.trips_are_heard.ensures.a;
      b = c.trips_are_heard.ensures.b;
      so = c.trips_are_heard.ensures.so;
    } in
    (found_line laws line identities cable before later ring started).located

pub returns-clause-in_op : goal.returns-clause-in_op
returns-clause-in_op c =
    all_of_ring
    (record {
      a = c.trips_are_heard.ensures.a;
      b = c.trips_are_heard.ensures.b;
      so = c.trips_are_heard.ensures.so;
    })
