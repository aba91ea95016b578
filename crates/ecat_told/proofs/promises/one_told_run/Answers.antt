use Rattle.ecat_told.proofs.RunLemmas.{run_logical, run_lost, run_lost_before, run_read, run_uncounted}
use Rattle.ecat_told.proofs.RunLemmas.{run_written}
use Rattle.ecat_told.proofs.promises.one_told_run.Goals as goal

pub returns-clause-read : goal.returns-clause-read
returns-clause-read c = run_read

pub returns-clause-written : goal.returns-clause-written
returns-clause-written c = run_written

pub returns-clause-lost : goal.returns-clause-lost
returns-clause-lost c = run_lost

pub returns-clause-lost_before : goal.returns-clause-lost_before
returns-clause-lost_before c = run_lost_before

pub returns-clause-uncounted : goal.returns-clause-uncounted
returns-clause-uncounted c = run_uncounted

pub returns-clause-logical : goal.returns-clause-logical
returns-clause-logical c = run_logical
