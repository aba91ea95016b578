-- What applications leave.
use Rattle.ec_applications.proofs.LeftLemmas.{acted-beside, acted-links, acted-size, acted-stays}
use Rattle.ec_applications.proofs.promises.acting_leaves.Goals as goal

pub returns-clause-links : goal.returns-clause-links
returns-clause-links c = acted-links

pub returns-clause-size : goal.returns-clause-size
returns-clause-size c = acted-size

pub returns-clause-beside : goal.returns-clause-beside
returns-clause-beside c = acted-beside

pub returns-clause-slave : goal.returns-clause-slave
returns-clause-slave c = acted-stays
