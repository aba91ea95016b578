use Rattle.ec_diag.proofs.LocateLemmas.{trip_heard_a, trip_heard_b, trip_tells}
use Rattle.ec_diag.proofs.promises.trips_are_heard.Goals as goal

pub returns-clause-a : goal.returns-clause-a
returns-clause-a c = trip_heard_a

pub returns-clause-b : goal.returns-clause-b
returns-clause-b c = trip_heard_b

pub returns-clause-so : goal.returns-clause-so
returns-clause-so c = trip_tells
