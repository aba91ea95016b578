use Rattle.ecat_remote.proofs.HistoryLemmas.{is_trip, went_on, fresh}
use Rattle.ecat_remote.proofs.promises.no_number_is_given_twice.Goals as goal

pub returns-clause-is : goal.returns-clause-is
returns-clause-is g c = is_trip g.C.Carrier.gives g.C.Carrier.heard

pub returns-clause-more : goal.returns-clause-more
returns-clause-more g c = went_on

pub returns-clause-fresh : goal.returns-clause-fresh
returns-clause-fresh g c = fresh
