use Rattle.std.proofs.Common.{◌≡◌, option_map}
use Rattle.ecat_task.specs.Held.{Become}
use Rattle.ecat_task.proofs.udp.UdpTask.take_all.Given as goal

abbrev pub invariant-loop-packet : goal.invariant-loop-packet
invariant-loop-packet l =
    Become (option_map (λ rest. rest.items) l.initial.self.held.rest) l.initial.self.held.outputs.items
    l.orders.are_others l.self.held.outputs.items
    × (l.self.held.rest ≡ l.initial.self.held.rest)
