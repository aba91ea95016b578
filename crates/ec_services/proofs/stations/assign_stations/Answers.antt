use Rattle.std.proofs.Common.{◌≡◌, ◌+◌, ◌-◌, ℕ, arith, ap, Ok, Err}
use Rattle.std.proofs.lemmas.Result.{err_from_is_err_and}
use Rattle.ec_services.specs.Ask.{write}
use Rattle.ec_services.specs.Stations.{station_write, station_writes}
use Rattle.ec_services.proofs.TalkLemmas.{goes_on, ends_fault, ends_undecided, write_in, stations_left}
use Rattle.ec_services.proofs.stations.assign_stations.Goals as goal

pub returns-in_err-write_station-clause-service : goal.returns-in_err-write_station-clause-service
returns-in_err-write_station-clause-service g c =
    let first : ℕ = c.args.first in
    let n : ℕ = c.in_ok-count.count in
    let k : ℕ = c.loop-place.place in
    let sent = station_write k (first + k) in
    let p = err_from_is_err_and c.from_residual-in_err-write_station.result
    c.from_residual-in_err-write_station.ensures.1 in
    rw (p.1, p.2) (record {
      count = Ok n;
      between = c.count_slaves.new.ports;
      counting = c.in_ok-count.ensures.counting;
      writing = ends_fault g.P.Ports.trips c.count_slaves.new.ports c.loop-place.ports
          c.write_station.new.ports
          (station_writes 0 first n) (station_writes k (first + k) (n - k)) (station_writes (k + 1)
          (first + (k + 1)) (n - (k + 1)))
          (write sent) (Ok n) c.in_err-write_station.field-0.0 c.loop-place.invariant.goes_on
          (stations_left first n k c.loop-place-test.true)
          (write_in {A = Unit {0}} g.P.Ports.trips c.loop-place.ports c.write_station.new.ports sent
          (Err c.in_err-write_station.field-0.0) c.in_err-write_station.ensures.asked);
    })

pub loop-place-preserved : goal.loop-place-preserved
loop-place-preserved g c =
    let first : ℕ = c.args.first in
    let n : ℕ = c.in_ok-count.count in
    let k : ℕ = c.loop-place.place in
    let sent = station_write k (first + k) in
    record {
      counted = omega (arith, c.loop-place.invariant.counted, c.write_station.ensures.never_lower);
      goes_on = goes_on g.P.Ports.trips c.count_slaves.new.ports c.loop-place.ports c.write_station.new.ports
          (station_writes 0 first n) (station_writes k (first + k) (n - k)) (station_writes (k + 1)
          (first + (k + 1)) (n - (k + 1)))
          (write sent) (Ok n) c.loop-place.invariant.goes_on (stations_left first n k c.loop-place-test.true)
          (write_in {A = Unit {0}} g.P.Ports.trips c.loop-place.ports c.write_station.new.ports sent
          (Ok tt) c.in_ok-write_station.ensures.asked);
    }

pub returns-clause-service : goal.returns-clause-service
returns-clause-service g c =
    let first : ℕ = c.args.first in
    let n : ℕ = c.in_ok-count.count in
    let k : ℕ = c.loop-place.place in
    record {
      count = Ok n;
      between = c.count_slaves.new.ports;
      counting = c.in_ok-count.ensures.counting;
      writing = ends_undecided g.P.Ports.trips c.count_slaves.new.ports c.loop-place.ports
          (station_writes 0 first n)
          (station_writes k (first + k) (n - k)) (Ok n) c.loop-place.invariant.goes_on
          (ap (station_writes k (first + k)) (let e : n - k ≡ 0 =
          omega (arith, c.loop-place-test.false) in e));
    }
