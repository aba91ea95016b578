use Rattle.std.proofs.Common.{◌≤◌, ◌-◌}
use Rattle.ec_services.specs.Mailbox.{IsPeer}
use Rattle.ec_services.specs.Surely.{asking}
use Rattle.ec_services.proofs.CourseLemmas.{KeepsOn}
use Rattle.ec_services.proofs.surely.run.Given as goal

abbrev pub invariant-loop-trip : goal.invariant-loop-trip
invariant-loop-trip g l = record {
  peer : IsPeer l.progress.peer;
  counted : g.P.Ports.failed l.initial.ports ≤ g.P.Ports.failed l.ports;
  keeps_on : KeepsOn g.P.Ports.trips (asking l.asked) l.initial.ports l.initial.progress l.ports l.progress
      l.trips (l.trips - l._trip);
}
