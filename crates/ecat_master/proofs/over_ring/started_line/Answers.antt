use Rattle.ec_run.specs.Watched.{untold}
use Rattle.ecat_master.proofs.OverRingLemmas.{all_set_up}
use Rattle.ecat_master.proofs.over_ring.started_line.Goals as goal

pub returns-clause-started : goal.returns-clause-started
returns-clause-started g c = all_set_up

pub returns-clause-good : goal.returns-clause-good
returns-clause-good g c work planned r ring wanted run =
    all_set_up planned.line.now planned.plan.now.identities.now run.made.cable (untold r) run.made.begun ring
    wanted run.made.started
