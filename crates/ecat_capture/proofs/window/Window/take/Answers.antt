-- What is taken is the front of the loaded bytes, and the packet a run of it.
use Rattle.ecat_capture.proofs.Consuming.{Consumes-buffered, run-buffered}
use Rattle.ecat_capture.proofs.window.Window.take.Goals as goal

pub returns-clause-taken : goal.returns-clause-taken
returns-clause-taken g c =
    rw (← c.self.view_is)
    (Consumes-buffered c.self.inside.buffer.items (g.S.Source.remaining c.self.inside.source)
    c.self.inside.from c.args.count)

pub returns-clause-packet : goal.returns-clause-packet
returns-clause-packet g c =
    rw (← c.self.view_is)
    (run-buffered c.self.inside.buffer.items c.self.inside.from c.args.packet_from c.args.packet_to
    c.args.count c.requires.within c.requires.reach)
