use Rattle.std.proofs.Common.{◌≤◌, ◌-◌}
use Rattle.ec_services.specs.Settling.{settling}
use Rattle.ec_services.specs.declared.settling.Mailboxes.TheVariants.{Unknown}
use Rattle.ec_services.proofs.CourseLemmas.{KeepsOn}
use Rattle.ec_services.proofs.settling.settle.Given as goal

abbrev pub invariant-loop-trip : goal.invariant-loop-trip
invariant-loop-trip g l = record {
  counted : g.P.Ports.failed l.initial.ports ≤ g.P.Ports.failed l.ports;
  keeps_on : KeepsOn g.P.Ports.trips (settling l.peer) l.initial.ports Unknown l.ports l.known l.limit
      (l.limit - l._trip);
}
