use Rattle.ecat_started.proofs.SucceedLemmas.{never_caused, objects_of_none}
use Rattle.ecat_started.proofs.succeeds.never_fails.Goals as goal

pub returns-clause-never : goal.returns-clause-never
returns-clause-never c =
    never_caused
    (record {
      a = c.trips_are_heard.ensures.a;
      b = c.trips_are_heard.ensures.b;
      so = c.trips_are_heard.ensures.so;
    })

pub returns-clause-no_objects : goal.returns-clause-no_objects
returns-clause-no_objects c = objects_of_none

pub returns-clause-no_identities : goal.returns-clause-no_identities
returns-clause-no_identities c line slaves = tt
