use Rattle.std.proofs.Common.{◌≤◌, ◌+◌, ◌-◌, Ok}
use Rattle.ec_services.specs.Stations.{station_writes}
use Rattle.ec_services.proofs.TalkLemmas.{GoesOn}
use Rattle.ec_services.proofs.stations.assign_stations.Given as goal

abbrev pub invariant-loop-place : goal.invariant-loop-place
invariant-loop-place g l = record {
  counted : g.P.Ports.failed l.initial.ports ≤ g.P.Ports.failed l.ports;
  goes_on : GoesOn g.P.Ports.trips l.initial.ports l.ports (station_writes 0 l.first l.count)
      (station_writes l.place (l.first + l.place) (l.count - l.place)) (Ok l.count);
}
