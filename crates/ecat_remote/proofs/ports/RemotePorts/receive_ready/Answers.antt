use Rattle.ecat_remote.proofs.TakenLemmas.{turn}
use Rattle.ecat_remote.proofs.ports.RemotePorts.receive_ready.Goals as goal

pub returns-clause-taken : goal.returns-clause-taken
returns-clause-taken g c = λ since trip sent are sooner so_far.
    turn g.C.Carrier.gives g.C.Carrier.heard since trip sent c.args.both.a c.args.both.b c.in_ok-a.a
    c.in_ok-b.b c.sent_from-from_a.result c.sent_from-from_b.result c.args.self.now.carrier
    c.receive_at.new.self.carrier c.receive_at-2.new.self.carrier sooner c.in_ok-a.ensures.heard_on
    c.in_ok-b.ensures.heard_on c.sent_from-from_b.ensures c.sent_from-from_a.ensures c.in_ok-a.ensures.kept
    c.in_ok-b.ensures.kept (λ none. c.in_ok-a.ensures.taken none trip sent are)
    (λ none. c.in_ok-b.ensures.taken none trip sent are) so_far.a so_far.b
