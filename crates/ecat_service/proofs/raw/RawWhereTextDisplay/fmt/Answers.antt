use Rattle.ecat_service.proofs.raw.RawWhereTextDisplay.fmt.Goals as goal

pub returns-in-Some-clause-writes : goal.returns-in-Some-clause-writes
returns-in-Some-clause-writes g c = rw c.in-Some.is c.write.ensures.writes
