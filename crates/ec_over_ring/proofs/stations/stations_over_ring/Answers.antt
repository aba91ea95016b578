use Rattle.std.proofs.Common.{ap, ◌∙◌}
use Rattle.ec_ring.specs.Ring.{RingState}
use Rattle.ec_over_ring.specs.Stations.{station_of}
use Rattle.std.specs.Prelude.{map}
use Rattle.ec_over_ring.proofs.AssignLemmas.{all_assigned, broken_left, none_counted, stations_rise}
use Rattle.ec_over_ring.proofs.stations.stations_over_ring.Goals as goal

pub returns-clause-result : goal.returns-clause-result
returns-clause-result c first r result later has some up talk =
    (all_assigned first r result later has some up talk).result_is

pub returns-clause-stations : goal.returns-clause-stations
returns-clause-stations c first r result later has some up low talk =
    ap (λ (x : RingState). map station_of x.slaves) (all_assigned first r result later has some up talk).ring
    ∙ stations_rise first r has low

pub returns-clause-ring : goal.returns-clause-ring
returns-clause-ring c first r result later has some up talk =
    (all_assigned first r result later has some up talk).ring

pub returns-clause-nobody : goal.returns-clause-nobody
returns-clause-nobody c first r result later none up talk =
    (none_counted first r result later none up talk).result_is

pub returns-clause-nobody_ring : goal.returns-clause-nobody_ring
returns-clause-nobody_ring c first r result later none up talk =
    (none_counted first r result later none up talk).ring

pub returns-clause-broken : goal.returns-clause-broken
returns-clause-broken c first r result later has down talk =
    (broken_left first r result later has down talk).result_is

pub returns-clause-broken_ring : goal.returns-clause-broken_ring
returns-clause-broken_ring c first r result later has down talk =
    (broken_left first r result later has down talk).ring
