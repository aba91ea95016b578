-- Some frames have gone out and are joined, and the items before `first` have taken their answers; and what
-- those behind them come to, after them, is what all come to.
use Rattle.std.proofs.Common.{◌≡◌, ◌≤◌, ◌-◌, List, length}
use Rattle.ec_wire.specs.Datagram.{DatagramRecord}
use Rattle.ec_master.specs.Cut.{concat}
use Rattle.ec_master.specs.Work.{with_answers}
use Rattle.ec_master.proofs.PortLemmas.{GoesOn}
use Rattle.ec_master.proofs.cycle.carry_all.Given as goal

abbrev pub invariant-loop-first : goal.invariant-loop-first
invariant-loop-first g l = record {
  joined : List (List DatagramRecord);
  taken : l.taken ≡ with_answers l.work (concat joined);
  count : length (concat joined) ≡ l.first;
  inside : l.first ≤ length l.work;
  counted : g.P.Ports.failed l.initial.ports ≤ g.P.Ports.failed l.ports;
  goes_on : GoesOn g.P.Ports.trips l.initial.ports l.ports l.work joined l.first;
}

abbrev pub decreases-loop-first : goal.decreases-loop-first
decreases-loop-first g l = length l.work - l.first
