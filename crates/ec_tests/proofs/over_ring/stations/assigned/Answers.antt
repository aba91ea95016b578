use Rattle.std.proofs.Common.{◌≡◌, ℕ, length, map, Ok, subst, arith}
use Rattle.std.specs.List.{range_with_len}
use Rattle.ec_ring.specs.Ring.{RingState}
use Rattle.ec_over_ring.specs.Stations.{station_of}
use Rattle.ec_tests.proofs.over_ring.stations.assigned.Goals as goal

pub returns-clause-result : goal.returns-clause-result
returns-clause-result g c =
    let r : RingState = c.fresh_ports-ports.result in
    let later : RingState = c.assign_stations-result.new.ports in
    let three : length r.slaves ≡ 3 = c.fresh_ports-ports.ensures.three in
    subst (λ (n : ℕ). c.assign_stations-result.result ≡ Ok n) three
    (c.stations_over_ring.ensures.result c.args.first r c.assign_stations-result.result later
    c.fresh_ports-ports.ensures.slaves (omega (arith, three)) (λ k from to. c.fresh_ports-ports.ensures.up k)
    c.assign_stations-result.ensures.service)

pub returns-clause-stations : goal.returns-clause-stations
returns-clause-stations g c =
    let r : RingState = c.fresh_ports-ports.result in
    let later : RingState = c.assign_stations-result.new.ports in
    let three : length r.slaves ≡ 3 = c.fresh_ports-ports.ensures.three in
    subst (λ (n : ℕ). map station_of later.slaves ≡ range_with_len c.args.first n) three
    (c.stations_over_ring.ensures.stations c.args.first r c.assign_stations-result.result later
    c.fresh_ports-ports.ensures.slaves (omega (arith, three)) (λ k from to. c.fresh_ports-ports.ensures.up k)
    c.requires c.assign_stations-result.ensures.service)
