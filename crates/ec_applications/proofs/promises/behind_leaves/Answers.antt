use Rattle.ec_applications.proofs.BehindLemmas.{behind-links, behind-size, behind-beside, behind-stays}
use Rattle.ec_applications.proofs.promises.behind_leaves.Goals as goal

pub returns-clause-links : goal.returns-clause-links
returns-clause-links c = behind-links

pub returns-clause-size : goal.returns-clause-size
returns-clause-size c = behind-size

pub returns-clause-beside : goal.returns-clause-beside
returns-clause-beside c = behind-beside

pub returns-clause-slave : goal.returns-clause-slave
returns-clause-slave c = behind-stays
