use Rattle.ecat_remote.proofs.NetworkLemmas.{all_taken, all_watched, all_past, given_by, says_of}
use Rattle.ecat_remote.proofs.MovingLemmas.{says_moving}
use Rattle.ecat_remote.proofs.promises.a_good_is_of_its_cycle.Goals as goal

pub returns-clause-taken : goal.returns-clause-taken
returns-clause-taken g c = all_taken g.C.Carrier.gives g.C.Carrier.heard

pub returns-clause-watched : goal.returns-clause-watched
returns-clause-watched g c = all_watched g.C.Carrier.gives g.C.Carrier.heard

pub returns-clause-past : goal.returns-clause-past
returns-clause-past g c = all_past g.C.Carrier.gives g.C.Carrier.heard

pub returns-clause-given : goal.returns-clause-given
returns-clause-given g c = given_by g.C.Carrier.gives g.C.Carrier.heard

pub returns-clause-says : goal.returns-clause-says
returns-clause-says g c = says_of g.C.Carrier.gives g.C.Carrier.heard

pub returns-clause-says_moving : goal.returns-clause-says_moving
returns-clause-says_moving g c = says_moving g.C.Carrier.gives g.C.Carrier.heard
