-- Over a capture the clauses together say that the first packet is given.
use Rattle.ecat_source.proofs.Captures.{gives_first}
use Rattle.ecat_source.proofs.capture.Pcap.next.Goals as goal

pub returns-clause-capture : goal.returns-clause-capture
returns-clause-capture g c =
    let taken = c.take_next-result.ensures in
    rw (← c.self.view_is)
    (λ packets has live. gives_first packets _ _ c.take_next-result.result c.stage_after-self-inside.ensures
    taken.packet taken.end taken.err has live)
