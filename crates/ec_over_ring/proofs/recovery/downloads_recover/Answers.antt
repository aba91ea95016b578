use Rattle.ec_over_ring.proofs.Laws.{download_held, download_recovers, said_throughout}
use Rattle.ec_over_ring.proofs.recovery.downloads_recover.Goals as goal

pub returns-clause-result : goal.returns-clause-result
returns-clause-result c = download_recovers

pub returns-clause-held : goal.returns-clause-held
returns-clause-held c = download_held

pub returns-clause-throughout : goal.returns-clause-throughout
returns-clause-throughout c = said_throughout
