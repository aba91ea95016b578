use Rattle.std.proofs.Common.{◌≡◌, ◌≤◌}
use Rattle.ecat_remote.proofs.ports.RemotePorts.pass_over_at.Given as goal

-- no count has fallen, and nothing else has changed
abbrev pub invariant-loop-passed : goal.invariant-loop-passed
invariant-loop-passed g l = record {
  counted : g.C.Carrier.failed l.initial.self.carrier ≤ g.C.Carrier.failed l.self.carrier;
  heard_on : g.C.Carrier.heard l.initial.self.carrier ≤ g.C.Carrier.heard l.self.carrier;
  rest : l.self ≡ record l.initial.self { carrier = l.self.carrier };
}
