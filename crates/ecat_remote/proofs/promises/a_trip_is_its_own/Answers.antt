use Rattle.ecat_remote.proofs.NetworkLemmas.{trip_given, line_left}
use Rattle.ecat_remote.proofs.promises.a_trip_is_its_own.Goals as goal

pub returns-clause-given : goal.returns-clause-given
returns-clause-given g c = trip_given g.C.Carrier.gives g.C.Carrier.heard

pub returns-clause-line : goal.returns-clause-line
returns-clause-line g c = line_left
