use Rattle.std.proofs.Common.{◌≡◌, ◌≤◌, ◌⊎◌, ℕ, List, true}
use Rattle.ec_wire.specs.Datagram.{DatagramRecord}
use Rattle.ecat_remote.specs.Enough.{IsEnough, have_come}
use Rattle.ecat_remote.specs.Taken.{AreNumbered, AreSoFar}
use Rattle.ecat_remote.proofs.ports.RemotePorts.wait_for_copies.Given as goal

-- what came was taken, no count has fallen, and the time is less only where what came is enough
abbrev pub invariant-loop-turn : goal.invariant-loop-turn
invariant-loop-turn g l = record {
  counted : g.C.Carrier.failed l.initial.self.carrier ≤ g.C.Carrier.failed l.self.carrier;
  heard_on : g.C.Carrier.heard l.initial.self.carrier ≤ g.C.Carrier.heard l.self.carrier;
  rest : l.self ≡ record l.initial.self { carrier = l.self.carrier };
  taken : (trip : ℕ) (sent : List DatagramRecord) → AreNumbered trip sent l.out
      → AreSoFar g.C.Carrier.gives g.C.Carrier.heard (g.C.Carrier.heard l.initial.self.carrier) trip sent
      l.both l.self.carrier;
  enough : l.span.enough ≡ true → (have_come l.both ≡ true) ⊎ IsEnough l.expected l.both;
}
