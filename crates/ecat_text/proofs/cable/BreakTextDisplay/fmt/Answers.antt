use Rattle.ecat_text.proofs.cable.BreakTextDisplay.fmt.Goals as goal

pub returns-in-One-clause-writes : goal.returns-in-One-clause-writes
returns-in-One-clause-writes g c = rw c.in-One.is c.write-in-One.ensures.writes

pub returns-in-First-clause-writes : goal.returns-in-First-clause-writes
returns-in-First-clause-writes g c = rw c.in-First.is c.write-in-First.ensures.writes
