use Rattle.std.proofs.Common.{◌≡◌, ◌+◌, ◌≤◌, drop}
use Rattle.ec_run.proofs.StepLemmas.{BringsOn}
use Rattle.ec_run.proofs.phase.bring.Given as goal

abbrev pub invariant-loop-wanted : goal.invariant-loop-wanted
invariant-loop-wanted g l = record {
  place : l.place ≡ l.first + l.wanted-index;
  counted : g.P.Ports.failed l.initial.ports ≤ g.P.Ports.failed l.ports;
  brings_on : BringsOn g.P.Ports.trips l.initial.ports l.ports l.first l.place l.line
      (drop l.wanted-index l.line) l.steps;
}
